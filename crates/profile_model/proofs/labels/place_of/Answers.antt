use Rattle.std.proofs.Common.{◌≡◌, arith, sym}
use Rattle.std.proofs.lemmas.List.Elements.{All-more}
use Rattle.std.specs.declared.cmp.Ordering.TheVariants.{Greater}
use Rattle.profile_model.specs.Stacks.{name_cmp}
use Rattle.profile_model.specs.LabelSets.{Label}
use Rattle.profile_model.proofs.LabelLemmas.{place_past}
use Rattle.profile_model.proofs.labels.place_of.Goals as goal

pub loop-at-preserved : goal.loop-at-preserved
loop-at-preserved c =
    let here : name_cmp c.args.name.now c.index-pairs-at.result.0 ≡ Greater = sym c.in-Greater.ensures in
    All-more (λ (label : Label). name_cmp c.args.name.now label.0 ≡ Greater) c.args.pairs.now c.loop-at.at c.index-pairs-at.result (omega arith) c.loop-at.invariant
    (rw (← c.index-pairs-at.is) here)

pub returns : goal.returns
returns c = place_past c.args.pairs.now c.loop-at.at c.args.name.now (omega arith) c.loop-at.invariant
