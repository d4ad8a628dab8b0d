use Rattle.tenant_books.proofs.KeptLemmas.{verdicts_some}
use Rattle.tenant_books.proofs.laws.each_is_judged.Goals as goal

pub returns : goal.returns
returns c = record {
  each = verdicts_some;
}
