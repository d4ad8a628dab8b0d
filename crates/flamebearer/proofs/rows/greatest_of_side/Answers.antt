use Rattle.std.proofs.Common.{[], Vec, Global, map, arith, ◌∙◌}
use Rattle.std.proofs.lemmas.List.{length-map}
use Rattle.flamebearer.specs.declared.levels.Spot.{Spot}
use Rattle.flamebearer.proofs.GatherLemmas.{read-view}
use Rattle.flamebearer.proofs.RowLemmas.{fold-grow}
use Rattle.flamebearer.proofs.rows.greatest_of_side.Goals as goal

pub loop-level-preserved : goal.loop-level-preserved
loop-level-preserved c =
    let long = length-map c.args.levels.now (λ (level : Vec Spot Global). level.items) in
    fold-grow (map (λ spot. spot.own)) (map (λ level. level.items) c.args.levels.now) c.loop-level.level-index [] c.deref.result.now c.args.least c.loop-level.greatest c.greatest_of_level-greatest.result
    (omega arith) c.loop-level.invariant
    (c.deref.ensures.value ∙ read-view (λ (level : Vec Spot Global). level.items) c.args.levels.now c.loop-level.level-index c.level-item.result [] (omega arith) c.level-item.is)
    c.greatest_of_level-greatest.ensures
