use Rattle.routes.proofs.LiteralRoutes.{broken_path_is_no_route}
use Rattle.routes.proofs.router.Routes.route_of.Goals as goal

pub returns-in-Err : goal.returns-in-Err
returns-in-Err c = broken_path_is_no_route c.args.path.now (c.in-Err.ensures.cases.0)
