use Rattle.std.proofs.Common.{◌≡◌, [], ◌∷◌, ◌++◌, length, get_or, arith, refl, ap, ◌∙◌}
use Rattle.std.specs.List.{flat_map, range_with_len}
use Rattle.flamebearer.specs.Pictures.{level_of, spans_of}
use Rattle.flamebearer.specs.Rows.{all_shown, spots_of}
use Rattle.flamebearer.proofs.RowLemmas.{row-grow}
use Rattle.flamebearer.proofs.rows.numbered_row.Goals as goal

pub loop-at-preserved : goal.loop-at-preserved
loop-at-preserved c = λ stacks.
    row-grow (λ at. flat_map (λ side. get_or (spans_of 0 side) at []) (level_of (all_shown stacks (spots_of c.args.laid.now)) c.args.depth)) c.args.numbers.now c.loop-at.at
    c.loop-at.row.items _ _ (get_or c.args.numbers.now c.loop-at.at 0) (c.loop-at.invariant stacks) (c.in_ok-push_spans.ensures stacks) refl c.in_ok-push.ensures.items

pub returns : goal.returns
returns c = λ stacks.
    let last : c.loop-at.at ≡ length c.args.numbers.now = omega arith in
    c.loop-at.invariant stacks
    ∙ ap (λ count. flat_map (λ at. flat_map (λ side. get_or (spans_of 0 side) at []) (level_of (all_shown stacks (spots_of c.args.laid.now)) c.args.depth) ++ get_or c.args.numbers.now at 0 ∷ []) (range_with_len 0 count)) last
