use Rattle.std.proofs.Common.{◌≡◌, ◌^◌, true, false, length, sym, ap, ◌∙◌, arith}
use Rattle.std.specs.Prelude.{not, nat_lt}
use Rattle.pprof_message.specs.declared.lists.ValueType.{ValueType}
use Rattle.profile_model.specs.Sums.{total_of}
use Rattle.pprof_codec.specs.Profiles.{samples_of}
use Rattle.pprof_codec.specs.Checks.{fault_if, first_of, total_faults}
use Rattle.pprof_codec.specs.declared.fault.PprofFault.TheVariants.{TooLarge}
use Rattle.pprof_codec.proofs.FaultLemmas.{each-first, each-kept, each-all, only-found}
use Rattle.pprof_codec.proofs.TotalLemmas.{faults_of_total, total-samples}
use Rattle.pprof_codec.proofs.totals.first_total_fault.Goals as goal

pub returns-then-is_too_large : goal.returns-then-is_too_large
unfolding total_faults
returns-then-is_too_large c =
    let size = ap (length {A = ValueType}) c.sample_types-number-end.ensures in
    let over : not (nat_lt (total_of (samples_of c.args.message.now c.loop-number.number)) (2 ^ 63)) ≡ true =
    ap (λ total. not (nat_lt total (2 ^ 63))) (total-samples c.args.message.now c.loop-number.number) ∙ sym c.is_too_large.ensures ∙ c.if-is_too_large.true in
    sym (each-first (faults_of_total c.args.message.now) c.args.message.now.sample_types c.loop-number.number c.args.message.now.period_type (TooLarge c.loop-number.number)
    (omega arith) c.loop-number.invariant (only-found _ (TooLarge c.loop-number.number) over))

pub loop-number-preserved : goal.loop-number-preserved
loop-number-preserved c =
    let size = ap (length {A = ValueType}) c.sample_types-number-end.ensures in
    let below : not (nat_lt (total_of (samples_of c.args.message.now c.loop-number.number)) (2 ^ 63)) ≡ false =
    ap (λ total. not (nat_lt total (2 ^ 63))) (total-samples c.args.message.now c.loop-number.number) ∙ sym c.is_too_large.ensures ∙ c.if-is_too_large.false in
    each-kept (faults_of_total c.args.message.now) c.args.message.now.sample_types c.loop-number.number c.args.message.now.period_type
    (omega arith) c.loop-number.invariant (ap (λ b. fault_if b (TooLarge c.loop-number.number)) below)

pub returns : goal.returns
unfolding total_faults
returns c =
    let size = ap (length {A = ValueType}) c.sample_types-number-end.ensures in
    sym (ap first_of (each-all (faults_of_total c.args.message.now) c.args.message.now.sample_types c.loop-number.number (omega arith) c.loop-number.invariant))
