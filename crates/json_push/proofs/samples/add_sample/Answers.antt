use Rattle.std.proofs.lemmas.Result.{err_from_is_err_and}
use Rattle.json_push.proofs.samples.add_sample.Goals as goal

pub returns-in_err-profiles : goal.returns-in_err-profiles
returns-in_err-profiles c =
    let p = err_from_is_err_and c.from_residual.result c.from_residual.ensures.1 in
    rw (p.1, p.2) (c.in_err-profiles.ensures c.args.push.now)
