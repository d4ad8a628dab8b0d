use Rattle.std.proofs.Common.{sym, ap, ◌∙◌}
use Rattle.std.specs.Option.{option_or}
use Rattle.pprof_codec.specs.Checks.{first_of, sample_faults, total_faults, value_faults}
use Rattle.pprof_codec.proofs.JudgedLemmas.{fault-parts}
use Rattle.pprof_codec.proofs.judged.first_value_fault.Goals as goal

pub returns-in-Some : goal.returns-in-Some
unfolding value_faults
returns-in-Some c = sym (fault-parts (sample_faults c.args.message.now) (total_faults c.args.message.now) ∙ ap (λ found. option_or found (first_of (total_faults c.args.message.now))) (sym c.first_sample_fault.ensures ∙ c.in-Some.is))

pub returns-in-None : goal.returns-in-None
unfolding value_faults
returns-in-None c =
    c.first_total_fault.ensures
    ∙ sym (fault-parts (sample_faults c.args.message.now) (total_faults c.args.message.now) ∙ ap (λ found. option_or found (first_of (total_faults c.args.message.now))) (sym c.first_sample_fault.ensures ∙ c.in-None.is))
