use Rattle.std.proofs.Common.{sym, ◌∙◌, ap}
use Rattle.std.specs.Prelude.{not}
use Rattle.pprof_codec.specs.Checks.{first_text_faults}
use Rattle.pprof_codec.proofs.FaultLemmas.{only-found, only-passed}
use Rattle.pprof_codec.proofs.texts.first_text_fault.Goals as goal

pub returns-then-begins_empty : goal.returns-then-begins_empty
unfolding first_text_faults
returns-then-begins_empty c = sym (only-passed _ _ (ap not (sym c.begins_empty.ensures ∙ c.if-begins_empty.true)))

pub returns : goal.returns
unfolding first_text_faults
returns c = sym (only-found _ _ (ap not (sym c.begins_empty.ensures ∙ c.if-begins_empty.false)))
