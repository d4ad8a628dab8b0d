use Rattle.std.proofs.Common.{◌≡◌, take}
use Rattle.json_bodies.proofs.push.copied_labels.Given as goal

abbrev pub invariant-loop-name : goal.invariant-loop-name
invariant-loop-name l = l.copied.items ≡ take l.name-index l.labels
