use Rattle.std.proofs.Common.{◌≡◌, ℕ, List, [], ◌∷◌, ◌++◌, get_or}
use Rattle.std.specs.List.{flat_map, range_with_len}
use Rattle.flamebearer.specs.Pictures.{level_of, spans_of}
use Rattle.flamebearer.specs.Rows.{all_shown, spots_of}
use Rattle.flamebearer.proofs.rows.numbered_row.Given as goal

abbrev pub invariant-loop-at : goal.invariant-loop-at
invariant-loop-at l = (stacks : List (List (List ℕ))) → l.row.items
    ≡ flat_map (λ at. flat_map (λ side. get_or (spans_of 0 side) at []) (level_of (all_shown stacks (spots_of l.laid)) l.depth) ++ get_or l.numbers at 0 ∷ []) (range_with_len 0 l.at)
