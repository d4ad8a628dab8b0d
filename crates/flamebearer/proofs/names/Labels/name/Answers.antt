use Rattle.std.proofs.Common.{◌∙◌, ap, sym, subst}
use Rattle.flamebearer.specs.Branches.{stacks_of}
use Rattle.flamebearer.specs.Spots.{IsPlace, name_at}
use Rattle.flamebearer.proofs.ChildLemmas.{name-at}
use Rattle.flamebearer.proofs.names.Labels.name.Goals as goal

pub returns-in-At : goal.returns-in-At
returns-in-At c =
    sym (name-at c.args.self.now.frames.now c.in-At.place c.index-self-place.result (subst (IsPlace _) c.in-At.is c.requires))
    ∙ ap (name_at (stacks_of c.args.self.now.frames.now)) (sym c.in-At.is)
