use Rattle.std.proofs.Common.{sym, ◌∙◌, ap}
use Rattle.std.specs.Prelude.{not}
use Rattle.pprof_codec.specs.Checks.{period_type_faults}
use Rattle.pprof_codec.proofs.FaultLemmas.{only-found, only-passed}
use Rattle.pprof_codec.proofs.texts.period_type_fault.Goals as goal

pub returns-then-has_texts : goal.returns-then-has_texts
unfolding period_type_faults
returns-then-has_texts c = sym (only-passed _ _ (ap not (sym c.has_texts.ensures ∙ c.if-has_texts.true)))

pub returns : goal.returns
unfolding period_type_faults
returns c = sym (only-found _ _ (ap not (sym c.has_texts.ensures ∙ c.if-has_texts.false)))
