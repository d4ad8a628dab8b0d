use Rattle.std.proofs.Common.{length, ap, arith}
use Rattle.pprof_message.proofs.GatheredLemmas.{length-samples_from, slice_get-samples_from}
use Rattle.pprof_message.proofs.message.PprofMessage.sample.Goals as goal

pub get-requires : goal.get-requires
get-requires c =
    let samples = c.self.inside.gathered.samples in
    omega (arith, c.requires, ap (λ m. length m.samples) c.self.view_is, length-samples_from samples.location_ids.closed samples.values.closed samples.labels.closed c.self.invariant.values c.self.invariant.labels)

pub get-requires-2 : goal.get-requires-2
get-requires-2 c =
    let samples = c.self.inside.gathered.samples in
    omega (arith, c.requires, c.self.invariant.values, ap (λ m. length m.samples) c.self.view_is, length-samples_from samples.location_ids.closed samples.values.closed samples.labels.closed c.self.invariant.values c.self.invariant.labels)

pub get-requires-3 : goal.get-requires-3
get-requires-3 c =
    let samples = c.self.inside.gathered.samples in
    omega (arith, c.requires, c.self.invariant.labels, ap (λ m. length m.samples) c.self.view_is, length-samples_from samples.location_ids.closed samples.values.closed samples.labels.closed c.self.invariant.values c.self.invariant.labels)

pub returns : goal.returns
returns c =
    let samples = c.self.inside.gathered.samples in
    rw (← c.self.view_is)
    (slice_get-samples_from samples.location_ids.closed samples.values.closed samples.labels.closed c.args.i c.get.result.now c.get-2.result.now c.get-3.result.now c.get.ensures c.get-2.ensures c.get-3.ensures)
