use Rattle.std.proofs.Common.{◌≡◌, ℕ, List, map}
use Rattle.std.specs.List.{range_with_len}
use Rattle.flamebearer.specs.Branches.{stacks_of}
use Rattle.flamebearer.specs.Names.{AreNumbered}
use Rattle.flamebearer.specs.Pictures.{level_of, row_of}
use Rattle.flamebearer.specs.Rows.{all_shown, spots_of}
use Rattle.flamebearer.proofs.rows.rows_of.Given as goal

abbrev pub invariant-loop-depth : goal.invariant-loop-depth
invariant-loop-depth l = (names : List (List ℕ)) → AreNumbered names l.numbers.entries → map (λ row. row.items) l.rows.items
    ≡ map (λ depth. row_of names (level_of (all_shown (stacks_of l.labels.frames.now) (spots_of l.laid)) depth)) (range_with_len 0 l.depth)
