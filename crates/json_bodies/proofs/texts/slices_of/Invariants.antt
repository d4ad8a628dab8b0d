use Rattle.std.proofs.Common.{◌≡◌, map, take, string_bytes}
use Rattle.json_bodies.proofs.texts.slices_of.Given as goal

abbrev pub invariant-loop-text : goal.invariant-loop-text
invariant-loop-text l = map (λ slice. slice.now) l.slices.items ≡ map string_bytes (take l.text-index l.texts)
