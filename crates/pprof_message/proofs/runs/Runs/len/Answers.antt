use Rattle.std.proofs.Common.{◌∙◌, sym}
use Rattle.pprof_message.proofs.RunsLemmas.{length-cut_at}
use Rattle.pprof_message.proofs.runs.Runs.len.Goals as goal

pub returns : goal.returns
returns g c = rw (← c.self.view_is) (c.len.ensures ∙ c.self.inside.ends.ok.0 ∙ sym (length-cut_at 0 c.self.inside.ends.items c.self.inside.items.items))
