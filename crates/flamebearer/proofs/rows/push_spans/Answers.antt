use Rattle.std.proofs.Common.{[], Vec, Global, map, arith, ap, ◌∙◌}
use Rattle.std.proofs.lemmas.List.{length-map}
use Rattle.flamebearer.specs.declared.levels.Spot.{Spot}
use Rattle.flamebearer.specs.Rows.{levels_in, spots_of}
use Rattle.flamebearer.proofs.GatherLemmas.{read-view}
use Rattle.flamebearer.proofs.RowLemmas.{spans-end, spans-grow}
use Rattle.flamebearer.proofs.rows.push_spans.Goals as goal

pub loop-levels-preserved : goal.loop-levels-preserved
loop-levels-preserved c = λ stacks.
    let long = length-map c.args.laid.now levels_in in
    spans-grow stacks (spots_of c.args.laid.now) c.args.depth c.args.at c.loop-levels.levels-index c.args.row.now.items c.loop-levels.row.items _ (map (λ level. level.items) c.deref.result.now)
    (omega arith) (c.loop-levels.invariant stacks)
    (ap (map (λ (level : Vec Spot Global). level.items)) c.deref.ensures.value ∙ read-view levels_in c.args.laid.now c.loop-levels.levels-index c.levels-item.result [] (omega arith) c.levels-item.is)
    (c.in_ok-push_span_of.ensures stacks)

pub returns : goal.returns
returns c = λ stacks.
    let long = length-map c.args.laid.now levels_in in
    spans-end stacks (spots_of c.args.laid.now) c.args.depth c.args.at c.loop-levels.levels-index c.args.row.now.items c.loop-levels.row.items (omega arith) (c.loop-levels.invariant stacks)
