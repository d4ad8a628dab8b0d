use Rattle.profile_model.proofs.SeenLemmas.{knows_more, repeats_absent, repeats_kept}
use Rattle.profile_model.proofs.seen.Seen.repeats.Goals as goal

pub returns-in-Ok-clause-repeats : goal.returns-in-Ok-clause-repeats
returns-in-Ok-clause-repeats c =
    repeats_kept c.args.pairs.now c.args.self.now.names.keys c.args.name c.in-Ok.added (c.requires c.if-not-self.false c.args.name.now) c.in-Ok.ensures.added

pub returns-in-Ok-clause-knows : goal.returns-in-Ok-clause-knows
returns-in-Ok-clause-knows c = λ value whole name.
    knows_more c.args.pairs.now c.args.self.now.names.keys c.insert.new.self.keys c.args.name value name c.in-Ok.ensures.keys (c.requires whole name)

pub returns-in-Err-clause-repeats : goal.returns-in-Err-clause-repeats
returns-in-Err-clause-repeats c =
    repeats_absent c.args.pairs.now c.args.self.now.names.keys c.args.name (c.requires c.if-not-self.false c.args.name.now) c.in-Err.ensures.absent
