use Rattle.std.proofs.Common.{length, [], ap, ◌∙◌, arith}
use Rattle.std.proofs.lemmas.List.{take_all}
use Rattle.pprof_message.specs.declared.lists.ValueType.{ValueType}
use Rattle.pprof_codec.specs.Tables.{sums_over}
use Rattle.pprof_codec.proofs.RunLemmas.{length-over, none-more}
use Rattle.pprof_codec.proofs.sums.no_sums.Goals as goal

pub loop-preserved : goal.loop-preserved
loop-preserved c =
    let size = ap (length {A = ValueType}) c.sample_types-count.ensures in
    none-more c.args.message.now c.loop.counter c.loop.sums.items c.push.new.self.items c.new.result (omega arith) c.in_ok-push.ensures.items c.new.ensures c.loop.invariant

pub returns : goal.returns
returns c =
    let size = ap (length {A = ValueType}) c.sample_types-count.ensures in
    let same = length-over c.args.message.now [] in
    c.loop.invariant ∙ take_all c.loop.counter (sums_over c.args.message.now []) (omega arith)
