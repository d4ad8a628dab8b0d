use Rattle.std.proofs.Common.{◌<◌, ◌∙◌, ap, sym, subst}
use Rattle.std.specs.Prelude.{if◌then◌else◌, nat_eq, unwrap_or}
use Rattle.std.specs.Cmp.Lexicographic.{pointwise}
use Rattle.std.specs.List.{AllByRecursion}
use Rattle.std.specs.Map.{lookup}
use Rattle.profile_model.specs.Limits.{total_bound}
use Rattle.tenant_books.specs.Limits.{limit_of}
use Rattle.tenant_books.specs.Rows.{rows_of}
use Rattle.tenant_books.proofs.RowLemmas.{all-inserted, value-inserted}
use Rattle.tenant_books.proofs.limits.Limits.set.Goals as goal

pub invariant_of-self-2 : goal.invariant_of-self-2
invariant_of-self-2 c = (
  c.self.invariant.0,
  subst (AllByRecursion (λ entry. entry.1 < total_bound)) (sym c.in_ok-insert.ensures.entries)
      (all-inserted (λ limit. limit < total_bound) c.self.inside.tenants.entries c.in_ok-key.key c.args.limit c.requires c.self.invariant.1),
)

pub returns-clause-ok : goal.returns-clause-ok
returns-clause-ok c = λ other.
    ap (λ entries. unwrap_or (lookup (pointwise nat_eq other) (rows_of entries)) c.self.inside.fallback) c.in_ok-insert.ensures.entries
    ∙ value-inserted c.self.inside.tenants.entries c.in_ok-key.key c.args.limit c.args.tenant.now other c.self.inside.fallback c.in_ok-key.ensures.items
    ∙ ap (λ limits. if pointwise nat_eq c.args.tenant.now other then c.args.limit else limit_of limits other) c.self.view_is
