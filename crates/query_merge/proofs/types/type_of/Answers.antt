use Rattle.std.proofs.Common.{rules}
use Rattle.query_merge.proofs.TypeLemmas.{text_again}
use Rattle.query_merge.proofs.types.type_of.Goals as goal

pub returns-in-Ok : goal.returns-in-Ok
returns-in-Ok c = text_again c.args.text.now c.in-Ok.kind (search rules)
