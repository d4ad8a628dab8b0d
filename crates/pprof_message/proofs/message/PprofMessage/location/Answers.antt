use Rattle.std.proofs.Common.{◌<◌, length, ap, arith}
use Rattle.std.proofs.lemmas.Option.{slice_get_read}
use Rattle.pprof_message.proofs.GatheredLemmas.{length-locations_from, slice_get-locations_from}
use Rattle.pprof_message.proofs.message.PprofMessage.location.Goals as goal

pub index-head-requires : goal.index-head-requires
index-head-requires c =
    let locations = c.self.inside.gathered.locations in
    omega (arith, c.requires, locations.heads.ok.0, ap (λ m. length m.locations) c.self.view_is, length-locations_from locations.heads.items locations.lines.closed c.self.invariant.lines)

pub get-requires : goal.get-requires
get-requires c =
    let locations = c.self.inside.gathered.locations in
    omega (arith, c.requires, c.self.invariant.lines, ap (λ m. length m.locations) c.self.view_is, length-locations_from locations.heads.items locations.lines.closed c.self.invariant.lines)

pub returns : goal.returns
returns c =
    let locations = c.self.inside.gathered.locations in
    let within : c.args.i < locations.heads.len =
    omega (arith, c.requires, locations.heads.ok.0, ap (λ m. length m.locations) c.self.view_is, length-locations_from locations.heads.items locations.lines.closed c.self.invariant.lines) in
    rw (← c.self.view_is)
    (slice_get-locations_from locations.heads.items locations.lines.closed c.args.i c.index-head.result.now c.get.result.now
    (slice_get_read locations.heads.items _ c.args.i c.index-head.result.now locations.heads.ok.0 within c.index-head.ensures) c.get.ensures)
