use Rattle.std.proofs.Common.{◌∙◌, ap, sym, Some, None}
use Rattle.std.specs.Prelude.{if◌then◌else◌}
use Rattle.request_meaning.specs.Forms.{built_route}
use Rattle.request_meaning.proofs.meaning.route_at.Goals as goal

pub returns-then-is_built : goal.returns-then-is_built
returns-then-is_built c =
    ap built_route (sym (rw (c.method.ensures, c.path.ensures) at c.in-Route.ensures))
    ∙ ap (λ built. if built then Some c.in-Route.route else None) (sym c.if-is_built.ensures)

pub returns-in-WrongMethod : goal.returns-in-WrongMethod
returns-in-WrongMethod c = sym (rw (c.method.ensures, c.path.ensures) at c.in-WrongMethod.ensures)

pub returns-in-NoRoute : goal.returns-in-NoRoute
returns-in-NoRoute c = sym (rw (c.method.ensures, c.path.ensures) at c.in-NoRoute.ensures)
