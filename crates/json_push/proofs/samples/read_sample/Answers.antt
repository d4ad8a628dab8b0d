use Rattle.std.proofs.Common.{Global}
use Rattle.json_push.proofs.PushLemmas.{sample_fault}
use Rattle.json_push.proofs.samples.read_sample.Goals as goal

pub returns : goal.returns
returns c = λ before.
    sample_fault c.args.series c.args.sample c.args.base.now before c.args.raw.now c.deref.result.now Global c.in-Err.refused c.of_pprof.result
    (rw c.deref.ensures.value (rw c.in-Some.is at c.in_ok-bytes.ensures)) c.in-Err.ensures.read c.of_pprof.ensures
