use Rattle.std.proofs.Common.{sym, ◌∙◌, ap}
use Rattle.std.specs.Prelude.{option_map}
use Rattle.pprof_codec.specs.Checks.{is_negative}
use Rattle.pprof_codec.specs.declared.fault.PprofFault.TheVariants.{NegativeValue}
use Rattle.pprof_codec.proofs.FaultLemmas.{first-position}
use Rattle.pprof_codec.proofs.samples.negative_value.Goals as goal

pub returns-in-Some : goal.returns-in-Some
returns-in-Some c =
    ap (option_map (NegativeValue c.args.number)) (sym c.in-Some.is ∙ c.negative_place.ensures)
    ∙ sym (first-position is_negative (NegativeValue c.args.number) c.args.values.now)

pub returns-in-None : goal.returns-in-None
returns-in-None c =
    ap (option_map (NegativeValue c.args.number)) (sym c.in-None.is ∙ c.negative_place.ensures)
    ∙ sym (first-position is_negative (NegativeValue c.args.number) c.args.values.now)
