use Rattle.tenant_books.proofs.VerdictLemmas.{one-judgement}
use Rattle.tenant_books.proofs.laws.one_judgement.Goals as goal

pub returns : goal.returns
returns c = record {
  one = one-judgement;
}
