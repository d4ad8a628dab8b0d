use Rattle.std.proofs.Common.{arith}
use Rattle.request_meaning.proofs.render_form.read_render.Goals as goal

pub returns-in_default : goal.returns-in_default
returns-in_default c = (c.in_ok-query.query, c.in_ok-query.ensures, rw c.first_value.ensures at c.in_default.ensures)

pub returns-in_default-bound_of : goal.returns-in_default-bound_of
returns-in_default-bound_of c = (
  c.in_ok-query.query,
  c.in-Some.from_ms,
  c.in_ok-query.ensures,
  rw (c.first_value.ensures, c.saturating_sub-earliest.ensures) at c.in-Some.ensures,
  rw c.first_value-2.ensures at c.in_default-bound_of.ensures,
)

pub returns-then-from_ms-until_ms : goal.returns-then-from_ms-until_ms
returns-then-from_ms-until_ms c = (
  c.in_ok-query.query,
  c.in-Some.from_ms,
  c.in-Some-bound_of.until_ms,
  c.in_ok-query.ensures,
  rw (c.first_value.ensures, c.saturating_sub-earliest.ensures) at c.in-Some.ensures,
  rw c.first_value-2.ensures at c.in-Some-bound_of.ensures,
  omega (arith, c.if-from_ms-until_ms.true),
)
