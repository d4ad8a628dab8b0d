use Rattle.std.proofs.Common.{◌≡◌, ◌<◌, take}
use Rattle.compaction_plan.specs.Jobs.{bytes_of}
use Rattle.compaction_plan.proofs.plan.fewest.Given as goal

abbrev pub invariant-loop-i : goal.invariant-loop-i
invariant-loop-i l = record { few : l.i < 8; light : l.bytes < 33554432; sum : l.bytes ≡ bytes_of (take l.i l.entries) }
