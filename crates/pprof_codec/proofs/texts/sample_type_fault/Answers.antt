use Rattle.std.proofs.Common.{sym, ◌∙◌, ap}
use Rattle.std.specs.Prelude.{not, option_map}
use Rattle.pprof_codec.specs.Checks.{has_texts, sample_type_faults}
use Rattle.pprof_codec.specs.declared.fault.Member.TheVariants as members
use Rattle.pprof_codec.specs.declared.fault.PprofFault.TheVariants.{NoSuchText}
use Rattle.pprof_codec.proofs.FaultLemmas.{first-position}
use Rattle.pprof_codec.proofs.texts.sample_type_fault.Goals as goal

pub returns-in-Some : goal.returns-in-Some
unfolding sample_type_faults
returns-in-Some c =
    ap (option_map (NoSuchText members.SampleType)) (sym c.in-Some.is ∙ c.kind_without_texts.ensures)
    ∙ sym (first-position (λ kind. not (has_texts c.args.names.now kind)) (NoSuchText members.SampleType) c.args.kinds.now)

pub returns-in-None : goal.returns-in-None
unfolding sample_type_faults
returns-in-None c =
    ap (option_map (NoSuchText members.SampleType)) (sym c.in-None.is ∙ c.kind_without_texts.ensures)
    ∙ sym (first-position (λ kind. not (has_texts c.args.names.now kind)) (NoSuchText members.SampleType) c.args.kinds.now)
