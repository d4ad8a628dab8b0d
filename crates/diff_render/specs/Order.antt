-- Which of two frames comes first behind the same stacks.
use Rattle.std.specs.Prelude.{◌≡◌, ⊤, List, [], ◌∷◌, nat_lt, if◌then◌else◌}
use Rattle.std.specs.declared.cmp.Ordering.{Ordering}
use Rattle.std.specs.declared.cmp.Ordering.TheVariants.{Less, Greater}
use Rattle.profile_model.specs.Stacks.{name_cmp}
use Rattle.flamebearer.specs.declared.branches.Frame.{Frame}

-- the deeper one, and of equally deep ones that with the lower name
abbrev pub frames_order : Frame → Frame → Ordering
frames_order left right =
    if nat_lt right.depth left.depth then Less else (if nat_lt left.depth right.depth then Greater else name_cmp left.name right.name)

-- whose stack is next, of what is left of each: the left's, the right's, or both have it
abbrev pub IsTurn : List Frame → List Frame → Ordering → Type 0
IsTurn (one ∷ more) (other ∷ later) turn = turn ≡ frames_order one other
IsTurn [] (other ∷ later) turn = turn ≡ Greater
IsTurn (one ∷ more) [] turn = turn ≡ Less
IsTurn [] [] turn = ⊤
