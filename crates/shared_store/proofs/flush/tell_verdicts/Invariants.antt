use Rattle.std.proofs.Common.{◌≡◌, Ok, map, vec_capacity}
use Rattle.shared_store.proofs.flush.tell_verdicts.Given as goal

abbrev pub invariant-loop-verdict : goal.invariant-loop-verdict
invariant-loop-verdict l = record {
  items : l.told.items ≡ map (λ verdict. Ok verdict) l.yielded;
  capacity : vec_capacity l.told ≡ vec_capacity l.fn.told;
}
