use Rattle.std.proofs.Common.{◌∙◌, ap, sym, subst}
use Rattle.std.specs.Prelude.{is_some}
use Rattle.tenant_books.specs.Books.{IsKnown, standing_in}
use Rattle.tenant_books.proofs.BookLemmas.{known-still, known-then, stands-still}
use Rattle.tenant_books.proofs.RowLemmas.{found-tenant}
use Rattle.tenant_books.proofs.books.Books.write_down.Goals as goal

pub returns-then-contains_key-clause-knows : goal.returns-then-contains_key-clause-knows
returns-then-contains_key-clause-knows c =
    subst (λ books. IsKnown books c.args.tenant.now) c.self.view_is
    (ap is_some (sym (found-tenant c.as_bytes.result.now c.args.tenant.now c.self.inside.rows.entries c.as_bytes.ensures.value)) ∙ sym c.contains_key.ensures ∙ c.if-contains_key.true)

pub returns-clause-stands : goal.returns-clause-stands
returns-clause-stands c = λ other.
    let absent = ap is_some (sym (found-tenant c.as_bytes.result.now c.args.tenant.now c.self.inside.rows.entries c.as_bytes.ensures.value)) ∙ sym c.contains_key.ensures ∙ c.if-contains_key.false in
    stands-still c.self.inside.rows.entries c.insert.new.self.entries c.in_ok-key.key c.args.tenant.now c.in_ok-insert.ensures.entries (c.in_ok-key.ensures.items ∙ c.as_bytes-2.ensures.value) absent other
    ∙ ap (λ books. standing_in books other) c.self.view_is

pub returns-clause-knows : goal.returns-clause-knows
returns-clause-knows c =
    known-then c.self.inside.rows.entries c.insert.new.self.entries c.in_ok-key.key c.args.tenant.now c.in_ok-insert.ensures.entries (c.in_ok-key.ensures.items ∙ c.as_bytes-2.ensures.value)

pub returns-clause-still : goal.returns-clause-still
returns-clause-still c = λ other known.
    known-still c.self.inside.rows.entries c.insert.new.self.entries c.in_ok-key.key c.args.tenant.now c.in_ok-insert.ensures.entries (c.in_ok-key.ensures.items ∙ c.as_bytes-2.ensures.value)
    other (subst (λ books. IsKnown books other) (sym c.self.view_is) known)
