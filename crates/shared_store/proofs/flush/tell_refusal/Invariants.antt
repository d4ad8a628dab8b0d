use Rattle.std.proofs.Common.{◌≡◌, Err, replicate, vec_capacity}
use Rattle.shared_store.proofs.flush.tell_refusal.Given as goal

abbrev pub invariant-loop : goal.invariant-loop
invariant-loop l = record {
  items : l.told.items ≡ replicate l.counter (Err l.refusal);
  capacity : vec_capacity l.told ≡ vec_capacity l.fn.told;
}
