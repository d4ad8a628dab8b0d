use Rattle.std.proofs.Common.{arith}
use Rattle.std.proofs.lemmas.Result.{err_from_is_err_and}
use Rattle.json_bodies.specs.PushRead.{series_of}
use Rattle.json_push.proofs.PushLemmas.{first_fault, series_more}
use Rattle.json_push.proofs.reader.profiles_of.Goals as goal

pub returns-in_err-add_series : goal.returns-in_err-add_series
returns-in_err-add_series c =
    let p = err_from_is_err_and c.from_residual.result c.from_residual.ensures.1 in
    rw (p.1, p.2)
    (first_fault series_of c.args.moment_ms c.args.all.now c.loop-number.number c.index-all-number.result c.loop-number.push _
    (omega arith) c.index-all-number.is c.loop-number.invariant c.in_err-add_series.ensures)

pub loop-number-preserved : goal.loop-number-preserved
loop-number-preserved c =
    series_more series_of c.args.moment_ms _ c.args.all.now c.loop-number.number c.index-all-number.result c.loop-number.push c.add_series.new.push
    (omega arith) c.index-all-number.is c.loop-number.invariant c.in_ok-add_series.ensures
