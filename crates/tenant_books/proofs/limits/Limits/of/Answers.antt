use Rattle.std.proofs.Common.{◌<◌, ◌∙◌, ap, sym, subst}
use Rattle.std.specs.Prelude.{unwrap_or}
use Rattle.profile_model.specs.Limits.{total_bound}
use Rattle.tenant_books.specs.Limits.{limit_of}
use Rattle.tenant_books.proofs.RowLemmas.{all-found, found-tenant}
use Rattle.tenant_books.proofs.limits.Limits.of.Goals as goal

pub returns-clause-limit : goal.returns-clause-limit
returns-clause-limit c =
    c.unwrap_or.ensures
    ∙ ap (λ found. unwrap_or found c.self.inside.fallback) (c.copied.ensures ∙ c.get.ensures.value ∙ found-tenant c.as_bytes.result.now c.args.tenant.now c.self.inside.tenants.entries c.as_bytes.ensures.value)
    ∙ ap (λ limits. limit_of limits c.args.tenant.now) c.self.view_is

pub returns-clause-bound : goal.returns-clause-bound
returns-clause-bound c =
    subst (λ limit. limit < total_bound)
    (sym (c.unwrap_or.ensures
    ∙ ap (λ found. unwrap_or found c.self.inside.fallback) (c.copied.ensures ∙ c.get.ensures.value ∙ found-tenant c.as_bytes.result.now c.args.tenant.now c.self.inside.tenants.entries c.as_bytes.ensures.value)))
    (all-found (λ limit. limit < total_bound) c.args.tenant.now c.self.inside.tenants.entries c.self.inside.fallback c.self.invariant.0 c.self.invariant.1)
