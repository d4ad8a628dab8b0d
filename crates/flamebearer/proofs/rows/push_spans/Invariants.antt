use Rattle.std.proofs.Common.{◌≡◌, ℕ, List, [], ◌++◌, get_or, take}
use Rattle.std.specs.List.{flat_map}
use Rattle.flamebearer.specs.Pictures.{level_of, spans_of}
use Rattle.flamebearer.specs.Rows.{all_shown, spots_of}
use Rattle.flamebearer.proofs.rows.push_spans.Given as goal

abbrev pub invariant-loop-levels : goal.invariant-loop-levels
invariant-loop-levels l = (stacks : List (List (List ℕ))) → l.row.items
    ≡ l.fn.row.items ++ flat_map (λ side. get_or (spans_of 0 side) l.at []) (take l.levels-index (level_of (all_shown stacks (spots_of l.laid)) l.depth))
