use Rattle.std.proofs.Common.{◌≡◌, ◌+◌, drop, length, take}
use Rattle.std.specs.Prelude.{map, sum_by}
use Rattle.std.specs.Vec.Iter.{into_iter_items, into_iter_len}
use Rattle.pprof_codec.specs.Profiles.{held_of, held_weight, profiles_of}
use Rattle.pprof_codec.specs.Tables.{all_sums, sums_weight}
use Rattle.pprof_codec.proofs.build.build_profiles.Given as goal

abbrev pub invariant-loop-number : goal.invariant-loop-number
invariant-loop-number l = record {
  built : map held_of l.profiles.items ≡ take l.number (profiles_of l.base l.judged.message);
  size : length l.profiles.items ≡ l.number;
  left : into_iter_items l.sums ≡ drop l.number (all_sums l.judged.message);
  count : into_iter_len l.sums + l.number ≡ length l.judged.message.sample_types;
  taken : l.room + sums_weight (into_iter_items l.sums) + sum_by held_weight (take l.number (profiles_of l.base l.judged.message)) ≡ 268435456;
}
