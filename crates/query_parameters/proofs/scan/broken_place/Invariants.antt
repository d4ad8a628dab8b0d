use Rattle.std.proofs.Common.{◌≡◌, Some, take}
use Rattle.query_parameters.specs.SeriesScan.{scan, start}
use Rattle.query_parameters.proofs.scan.broken_place.Given as goal

abbrev pub invariant-loop-at : goal.invariant-loop-at
invariant-loop-at l = scan start (take l.at l.text) ≡ Some l.part
