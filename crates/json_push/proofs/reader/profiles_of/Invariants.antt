use Rattle.std.proofs.Common.{[], map, take}
use Rattle.json_bodies.specs.PushRead.{series_of}
use Rattle.json_push.specs.Pushed.{SeriesGive}
use Rattle.json_push.proofs.reader.profiles_of.Given as goal

abbrev pub invariant-loop-number : goal.invariant-loop-number
invariant-loop-number l = SeriesGive l.moment_ms [] (map series_of (take l.number l.all)) l.push
