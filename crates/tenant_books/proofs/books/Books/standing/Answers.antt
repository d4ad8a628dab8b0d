use Rattle.std.proofs.Common.{◌∙◌, ap}
use Rattle.std.specs.Prelude.{unwrap_or}
use Rattle.tenant_books.specs.Books.{nowhere, standing_in}
use Rattle.tenant_books.proofs.RowLemmas.{found-tenant}
use Rattle.tenant_books.proofs.books.Books.standing.Goals as goal

pub returns : goal.returns
returns c =
    c.unwrap_or.ensures
    ∙ ap (λ found. unwrap_or found nowhere) (c.copied.ensures ∙ c.get.ensures.value ∙ found-tenant c.as_bytes.result.now c.args.tenant.now c.self.inside.rows.entries c.as_bytes.ensures.value)
    ∙ ap (λ books. standing_in books c.args.tenant.now) c.self.view_is
