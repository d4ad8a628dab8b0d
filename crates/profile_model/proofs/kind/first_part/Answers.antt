use Rattle.std.proofs.Common.{lit<}
use Rattle.profile_model.proofs.KindLemmas.{split_parts, split_part}
use Rattle.profile_model.proofs.kind.first_part.Goals as goal

pub returns-clause-parts : goal.returns-clause-parts
returns-clause-parts c = split_parts c.args.text.now c.split_once.result (c.split_once.ensures.byte (lit< tt) (λ w o h. h))

pub returns-clause-part : goal.returns-clause-part
returns-clause-part c = split_part c.args.text.now c.split_once.result (c.split_once.ensures.byte (lit< tt) (λ w o h. h))
