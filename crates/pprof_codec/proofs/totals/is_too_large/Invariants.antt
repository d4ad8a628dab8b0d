use Rattle.std.proofs.Common.{◌≡◌, ◌^◌, ◌<◌, take}
use Rattle.std.specs.Prelude.{sum_by}
use Rattle.pprof_codec.specs.Profiles.{value_of}
use Rattle.pprof_codec.proofs.totals.is_too_large.Given as goal

abbrev pub invariant-loop-at : goal.invariant-loop-at
invariant-loop-at l = record {
  summed : l.total ≡ sum_by (value_of l.number) (take l.at l.message.samples);
  bounded : l.total < 2 ^ 63;
}
