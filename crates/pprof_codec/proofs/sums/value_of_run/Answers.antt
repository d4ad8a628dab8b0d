use Rattle.std.proofs.Common.{◌+◌, arith}
use Rattle.pprof_codec.proofs.OrderLemmas.{value-first, value-more}
use Rattle.pprof_codec.proofs.sums.value_of_run.Goals as goal

pub overflow_add-value : goal.overflow_add-value
overflow_add-value c =
    let more = value-more c.args.message.now c.args.number c.args.run.now c.loop-at.at-index _ _ (omega arith) c.sample.ensures in
    let within = value-first c.args.message.now c.args.number c.args.run.now (c.loop-at.at-index + 1) in
    let own = c.value_of-value.ensures in
    let before = c.loop-at.invariant in
    let bound = c.requires.bound in omega arith

pub loop-at-preserved : goal.loop-at-preserved
loop-at-preserved c =
    let more = value-more c.args.message.now c.args.number c.args.run.now c.loop-at.at-index _ _ (omega arith) c.sample.ensures in
    let own = c.value_of-value.ensures in
    let before = c.loop-at.invariant in omega arith
