use Rattle.std.proofs.Common.{[], Vec, Global, map, arith, ap, ◌∙◌}
use Rattle.std.specs.List.{flat_map}
use Rattle.std.proofs.lemmas.List.{length-map}
use Rattle.flamebearer.specs.declared.levels.Spot.{Spot}
use Rattle.flamebearer.specs.Rows.{levels_in, spots_of}
use Rattle.flamebearer.proofs.GatherLemmas.{read-view}
use Rattle.flamebearer.proofs.RowLemmas.{fold-grow}
use Rattle.flamebearer.proofs.rows.greatest_own.Goals as goal

pub loop-levels-preserved : goal.loop-levels-preserved
loop-levels-preserved c =
    let long = length-map c.args.laid.now levels_in in
    fold-grow (flat_map (map (λ spot. spot.own))) (spots_of c.args.laid.now) c.loop-levels.levels-index [] (map (λ level. level.items) c.deref.result.now) 0 c.loop-levels.greatest c.greatest_of_side-greatest.result
    (omega arith) c.loop-levels.invariant
    (ap (map (λ (level : Vec Spot Global). level.items)) c.deref.ensures.value ∙ read-view levels_in c.args.laid.now c.loop-levels.levels-index c.levels-item.result [] (omega arith) c.levels-item.is)
    c.greatest_of_side-greatest.ensures
