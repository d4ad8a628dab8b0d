use Rattle.std.proofs.Common.{[], Vec, Global, map, length, arith, sym, ◌∙◌, subst}
use Rattle.std.specs.List.{All}
use Rattle.std.proofs.lemmas.List.{length-map}
use Rattle.flamebearer.specs.declared.levels.Spot.{Spot}
use Rattle.flamebearer.specs.Branches.{stacks_of}
use Rattle.flamebearer.specs.Spots.{IsPlace, name_at}
use Rattle.flamebearer.proofs.GatherLemmas.{names-end, names-grow, read-view}
use Rattle.flamebearer.proofs.names.names_of.Goals as goal

pub add_names-requires-clause-places : goal.add_names-requires-clause-places
add_names-requires-clause-places c =
    let long = length-map c.args.levels.now (λ (level : Vec Spot Global). level.items) in
    subst (All (λ (spot : Spot). IsPlace (length c.args.labels.now.frames.now) spot.stands))
    (sym (c.deref.ensures.value ∙ read-view (λ (level : Vec Spot Global). level.items) c.args.levels.now c.loop-level.level-index c.level-item.result [] (omega arith) c.level-item.is))
    (c.requires c.loop-level.level-index [] (omega arith))

pub loop-level-preserved : goal.loop-level-preserved
loop-level-preserved c =
    let long = length-map c.args.levels.now (λ (level : Vec Spot Global). level.items) in
    record {
      names = names-grow (λ spot. name_at (stacks_of c.args.labels.now.frames.now) spot.stands) (map (λ level. level.items) c.args.levels.now) c.loop-level.level-index c.loop-level.names.items _ c.deref.result.now
          (omega arith) c.loop-level.invariant.names
          (c.deref.ensures.value ∙ read-view (λ (level : Vec Spot Global). level.items) c.args.levels.now c.loop-level.level-index c.level-item.result [] (omega arith) c.level-item.is)
          c.in_ok-add_names.ensures.names;
      numbers = c.in_ok-add_names.ensures.numbers;
    }

pub returns-clause-names : goal.returns-clause-names
returns-clause-names c =
    let long = length-map c.args.levels.now (λ (level : Vec Spot Global). level.items) in
    names-end (λ spot. name_at (stacks_of c.args.labels.now.frames.now) spot.stands) (map (λ level. level.items) c.args.levels.now) c.loop-level.level-index c.loop-level.names.items (omega arith) c.loop-level.invariant.names
