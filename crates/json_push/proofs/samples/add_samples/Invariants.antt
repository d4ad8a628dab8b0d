use Rattle.std.proofs.Common.{map, take}
use Rattle.json_push.specs.Pushed.{SamplesGive}
use Rattle.json_push.proofs.samples.add_samples.Given as goal

abbrev pub invariant-loop-sample : goal.invariant-loop-sample
invariant-loop-sample l = SamplesGive l.base l.fn.push (map (λ raw. raw.now) (take l.sample l.raws)) l.push
