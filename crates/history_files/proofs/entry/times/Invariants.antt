use Rattle.std.proofs.Common.{◌≡◌, ◌^◌, ◌-◌, drop, min, max}
use Rattle.std.specs.List.{fold}
use Rattle.history_files.specs.History.{times_of}
use Rattle.history_files.proofs.entry.times.Given as goal

abbrev pub invariant-loop-push : goal.invariant-loop-push
invariant-loop-push l = record {
  least : fold min l.times.0 (times_of (drop l.push-index l.pushes)) ≡ fold min (2 ^ 64 - 1) (times_of l.pushes);
  greatest : fold max l.times.1 (times_of (drop l.push-index l.pushes)) ≡ fold max 0 (times_of l.pushes);
}
