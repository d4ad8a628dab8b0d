use Rattle.std.proofs.Common.{◌≡◌, map, take}
use Rattle.profile_model.specs.TypeTexts.{type_text}
use Rattle.query_merge.proofs.types.types_in.Given as goal

abbrev pub invariant-loop-text : goal.invariant-loop-text
invariant-loop-text l = map type_text l.types.items ≡ take l.text-index l.texts
