use Rattle.std.proofs.Common.{◌≡◌}
use Rattle.flamebearer.specs.Spots.{own_before}
use Rattle.flamebearer.proofs.levels.total_own.Given as goal

abbrev pub invariant-loop-value : goal.invariant-loop-value
invariant-loop-value l = l.total ≡ own_before l.values l.value-index
