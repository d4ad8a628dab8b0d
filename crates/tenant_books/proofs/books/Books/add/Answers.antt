use Rattle.std.proofs.Common.{◌∙◌, ◌+◌, ◌-◌, ◌^◌, ap, sym, subst}
use Rattle.std.proofs.lemmas.Bool.{true≢false}
use Rattle.std.specs.Option.{option_copied_mut}
use Rattle.std.specs.Prelude.{is_some, min}
use Rattle.tenant_books.specs.Books.{AreBooksOf, IsKnown}
use Rattle.tenant_books.proofs.BookLemmas.{books-counted, counted-still}
use Rattle.tenant_books.proofs.RowLemmas.{found-tenant}
use Rattle.tenant_books.proofs.books.Books.add.Goals as goal

pub unreachable-requires : goal.unreachable-requires
unreachable-requires c =
    let known = subst (λ books. IsKnown books c.args.push.now.tenant) (sym c.self.view_is) c.requires in
    let absent = sym c.get_mut.ensures.value ∙ ap option_copied_mut c.in_default.is in
    true≢false (sym known ∙ ap is_some (sym (found-tenant c.as_bytes.result.now c.args.push.now.tenant c.self.inside.rows.entries c.as_bytes.ensures.value) ∙ absent))

pub returns-clause-books : goal.returns-clause-books
returns-clause-books c = λ history are bounded short.
    books-counted c.as_bytes.result.now c.self.inside.rows.entries _ c.in-Some.standing.now _
    (c.get_mut.follows.holds (record { front = c.saturating_add-standing.result; total = c.saturating_add-standing-2.result })).0 c.in-Some.ensures.value
    c.args.push.now c.as_bytes.ensures.value c.saturating_add-standing.ensures
    (c.saturating_add-standing-2.ensures ∙ ap (λ total. min (c.in-Some.standing.now.total + total) (2 ^ 128 - 1)) c.total-total.ensures.total)
    history (subst (λ books. AreBooksOf books history) (sym c.self.view_is) are) bounded short

pub returns-clause-still : goal.returns-clause-still
returns-clause-still c = λ tenant known.
    counted-still c.as_bytes.result.now c.self.inside.rows.entries _ c.in-Some.standing.now _
    (c.get_mut.follows.holds (record { front = c.saturating_add-standing.result; total = c.saturating_add-standing-2.result })).0 c.in-Some.ensures.value
    tenant (subst (λ books. IsKnown books tenant) (sym c.self.view_is) known)
