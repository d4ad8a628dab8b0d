use Rattle.std.proofs.Common.{◌∙◌}
use Rattle.tenant_books.proofs.VerdictLemmas.{some-kept}
use Rattle.tenant_books.proofs.judging.would_keep.Goals as goal

pub returns-clause-told : goal.returns-clause-told
returns-clause-told c = λ history verdicts last are told.
    c.is_any_kept_alone.ensures ∙ some-kept c.args.books.now c.args.limits.now history c.args.asks.now verdicts last are told
