use Rattle.std.proofs.Common.{[], arith}
use Rattle.std.proofs.lemmas.Result.{err_from_is_err_and}
use Rattle.json_push.proofs.PushLemmas.{fault_of_samples, samples_more}
use Rattle.json_push.proofs.samples.add_samples.Goals as goal

pub returns-in_err-add_sample : goal.returns-in_err-add_sample
returns-in_err-add_sample c =
    let p = err_from_is_err_and c.from_residual.result c.from_residual.ensures.1 in
    rw (p.1, p.2)
    (fault_of_samples c.args.series c.args.base.now c.args.push.now c.args.raws.now c.loop-sample.sample record { ref_ptr = (0, 0); now = [] } c.loop-sample.push _
    (omega arith) c.loop-sample.invariant c.in_err-add_sample.ensures)

pub loop-sample-preserved : goal.loop-sample-preserved
loop-sample-preserved c =
    samples_more c.args.base.now c.args.push.now c.args.raws.now c.loop-sample.sample record { ref_ptr = (0, 0); now = [] } c.loop-sample.push c.add_sample.new.push
    (omega arith) c.loop-sample.invariant c.in_ok-add_sample.ensures
