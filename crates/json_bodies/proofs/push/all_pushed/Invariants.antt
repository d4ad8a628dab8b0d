use Rattle.std.proofs.Common.{◌≡◌, map, take}
use Rattle.json_bodies.specs.KeptSeries.{kept_of}
use Rattle.json_bodies.specs.PushRead.{series_of}
use Rattle.json_bodies.proofs.push.all_pushed.Given as goal

abbrev pub invariant-loop-series : goal.invariant-loop-series
invariant-loop-series l = map series_of l.pushed.items ≡ map kept_of (take l.series-index l.all)
