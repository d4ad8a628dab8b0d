use Rattle.std.proofs.Common.{◌∙◌, sym}
use Rattle.pprof_message.proofs.GatheredLemmas.{length-locations_from}
use Rattle.pprof_message.proofs.message.PprofMessage.locations.Goals as goal

pub returns : goal.returns
returns c =
    let locations = c.self.inside.gathered.locations in
    rw (← c.self.view_is) (c.len.ensures ∙ locations.heads.ok.0 ∙ sym (length-locations_from locations.heads.items locations.lines.closed c.self.invariant.lines))
