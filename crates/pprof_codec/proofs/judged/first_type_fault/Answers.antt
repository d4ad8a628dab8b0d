use Rattle.std.proofs.Common.{sym, ap, ◌∙◌}
use Rattle.std.specs.Option.{option_or}
use Rattle.pprof_codec.specs.Checks.{first_of, sample_type_faults, period_type_faults, type_faults}
use Rattle.pprof_codec.proofs.JudgedLemmas.{fault-parts}
use Rattle.pprof_codec.proofs.judged.first_type_fault.Goals as goal

pub returns-in-Some : goal.returns-in-Some
unfolding type_faults
returns-in-Some c =
    let own = sym (c.sample_type_fault.ensures ∙ ap (λ kinds. first_of (sample_type_faults c.args.names.now kinds)) c.sample_types.ensures) ∙ c.in-Some.is in
    let period = period_type_faults c.args.names.now c.args.message.now.period_type in
    sym (fault-parts (sample_type_faults c.args.names.now c.args.message.now.sample_types) period ∙ ap (λ found. option_or found (first_of period)) own)

pub returns-in-None : goal.returns-in-None
unfolding type_faults
returns-in-None c =
    let own = sym (c.sample_type_fault.ensures ∙ ap (λ kinds. first_of (sample_type_faults c.args.names.now kinds)) c.sample_types.ensures) ∙ c.in-None.is in
    let period = period_type_faults c.args.names.now c.args.message.now.period_type in
    c.period_type_fault.ensures ∙ ap (λ kind. first_of (period_type_faults c.args.names.now kind)) c.period_type.ensures
    ∙ sym (fault-parts (sample_type_faults c.args.names.now c.args.message.now.sample_types) period ∙ ap (λ found. option_or found (first_of period)) own)
