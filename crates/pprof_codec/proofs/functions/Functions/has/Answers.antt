use Rattle.std.proofs.Common.{ap, ◌∙◌}
use Rattle.std.specs.Prelude.{is_some}
use Rattle.pprof_codec.proofs.TableLemmas.{is_some-copied}
use Rattle.pprof_codec.proofs.functions.Functions.has.Goals as goal

pub returns : goal.returns
returns c = c.is_some.ensures ∙ is_some-copied c.frame.result ∙ ap is_some c.frame.ensures
