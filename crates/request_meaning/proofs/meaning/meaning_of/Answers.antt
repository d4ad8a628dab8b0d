use Rattle.std.proofs.Common.{sym, subst}
use Rattle.request_meaning.specs.Facts.{facts_of}
use Rattle.request_meaning.specs.Meanings.{Reaches}
use Rattle.request_meaning.proofs.MeaningLemmas.{reached_built, says_meaning, stopped_at}
use Rattle.request_meaning.proofs.meaning.meaning_of.Goals as goal

pub returns-in-Ok-read_for : goal.returns-in-Ok-read_for
returns-in-Ok-read_for c =
    let facts = facts_of c.args.config.now in
    let asked = c.args.request.now in
    let judged = c.in_ok-route.ensures in (
      says_meaning facts asked c.in_ok-route.route c.in-Ok.tenant c.in-Ok-read_for.what
          (subst (Reaches facts asked c.in_ok-route.route) (sym c.in-Ok.ensures.read.1) judged.0) c.in-Ok-read_for.ensures,
      judged.1,
    )

pub returns-in-Err : goal.returns-in-Err
returns-in-Err c =
    stopped_at (facts_of c.args.config.now) c.args.request.now c.in_ok-route.route c.in_ok-route.name.now c.in-Err.refused c.in_ok-route.ensures.0 c.in-Err.ensures

pub returns-in_default : goal.returns-in_default
returns-in_default c = (c.in_ok-route.route, c.in_ok-route.name.now, c.in_ok-route.ensures.0)

pub read_for-requires : goal.read_for-requires
read_for-requires c = reached_built c.args.request.now c.in_ok-route.route c.in_ok-route.ensures.0.route_is
