use Rattle.std.proofs.Common.{◌∙◌, sym}
use Rattle.pprof_message.proofs.GatheredLemmas.{length-samples_from}
use Rattle.pprof_message.proofs.message.PprofMessage.samples.Goals as goal

pub returns : goal.returns
returns c =
    let samples = c.self.inside.gathered.samples in
    rw (← c.self.view_is) (c.len.ensures ∙ sym (length-samples_from samples.location_ids.closed samples.values.closed samples.labels.closed c.self.invariant.values c.self.invariant.labels))
