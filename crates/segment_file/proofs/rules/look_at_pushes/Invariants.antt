use Rattle.std.proofs.Common.{drop}
use Rattle.std.specs.List.{All}
use Rattle.segment_file.specs.Objects.{IsPush}
use Rattle.segment_file.proofs.rules.look_at_pushes.Given as goal

abbrev pub invariant-loop-push : goal.invariant-loop-push
invariant-loop-push l = record { rules : All IsPush (drop l.push-index l.pushes) → All IsPush l.pushes }
