use Rattle.std.proofs.Common.{length, sym, ap, ◌∙◌, arith}
use Rattle.pprof_message.specs.declared.lists.ValueType.{ValueType}
use Rattle.pprof_codec.specs.Checks.{faults_of_sample, first_of, sample_faults}
use Rattle.pprof_codec.proofs.FaultLemmas.{first-none, read-first, read-kept, each-all}
use Rattle.pprof_codec.proofs.samples.first_sample_fault.Goals as goal

pub returns-in-Some : goal.returns-in-Some
unfolding sample_faults
returns-in-Some c =
    let own = c.sample_fault.ensures c.args.message.now c.requires.texts (ap (length {A = ValueType}) c.sample_types-kinds.ensures) c.requires.locations in
    sym (read-first (faults_of_sample c.args.message.now) c.args.message.now.samples c.loop-number.number _ c.in-Some.fault c.sample-sample.ensures c.loop-number.invariant (sym own ∙ c.in-Some.is))

pub loop-number-preserved : goal.loop-number-preserved
loop-number-preserved c =
    let own = c.sample_fault.ensures c.args.message.now c.requires.texts (ap (length {A = ValueType}) c.sample_types-kinds.ensures) c.requires.locations in
    read-kept (faults_of_sample c.args.message.now) c.args.message.now.samples c.loop-number.number _ c.sample-sample.ensures c.loop-number.invariant (first-none _ (sym own ∙ c.in_default.is))

pub returns : goal.returns
unfolding sample_faults
returns c = sym (ap first_of (each-all (faults_of_sample c.args.message.now) c.args.message.now.samples c.loop-number.number (omega arith) c.loop-number.invariant))
