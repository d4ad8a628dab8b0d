use Rattle.std.proofs.Common.{ℕ, ◌<◌, ap, length, arith}
use Rattle.pprof_message.proofs.RunsLemmas.{length-cut_at, at_places}
use Rattle.pprof_message.proofs.runs.Runs.get.Goals as goal

pub start_of-from-requires : goal.start_of-from-requires
start_of-from-requires g c =
    omega (arith, c.requires, ap (λ r. length r.closed) c.self.view_is, length-cut_at 0 c.self.inside.ends.items c.self.inside.items.items, ap (length {A = ℕ}) c.deref.ensures.value)

pub index-end-requires : goal.index-end-requires
index-end-requires g c = omega (arith, c.requires, ap (λ r. length r.closed) c.self.view_is, length-cut_at 0 c.self.inside.ends.items c.self.inside.items.items, c.self.inside.ends.ok.0)

pub between-requires-clause-ordered : goal.between-requires-clause-ordered
between-requires-clause-ordered g c =
    let lt : c.args.i < length c.self.inside.ends.items = omega (arith, c.requires, ap (λ r. length r.closed) c.self.view_is, length-cut_at 0 c.self.inside.ends.items c.self.inside.items.items) in
    (at_places c.self.inside.items.items c.self.inside.ends.items c.args.i c.start_of-from.result c.index-end.result.now c.self.invariant lt (rw c.deref.ensures.value at c.start_of-from.ensures) c.index-end.ensures).0

pub between-requires-clause-within : goal.between-requires-clause-within
between-requires-clause-within g c =
    let lt : c.args.i < length c.self.inside.ends.items = omega (arith, c.requires, ap (λ r. length r.closed) c.self.view_is, length-cut_at 0 c.self.inside.ends.items c.self.inside.items.items) in
    rw c.deref-2.ensures.value (at_places c.self.inside.items.items c.self.inside.ends.items c.args.i c.start_of-from.result c.index-end.result.now c.self.invariant lt (rw c.deref.ensures.value at c.start_of-from.ensures) c.index-end.ensures).1

pub returns : goal.returns
returns g c =
    let lt : c.args.i < length c.self.inside.ends.items = omega (arith, c.requires, ap (λ r. length r.closed) c.self.view_is, length-cut_at 0 c.self.inside.ends.items c.self.inside.items.items) in
    rw (← c.self.view_is, c.between.ensures, c.deref-2.ensures.value)
    (at_places c.self.inside.items.items c.self.inside.ends.items c.args.i c.start_of-from.result c.index-end.result.now c.self.invariant lt (rw c.deref.ensures.value at c.start_of-from.ensures) c.index-end.ensures).2
