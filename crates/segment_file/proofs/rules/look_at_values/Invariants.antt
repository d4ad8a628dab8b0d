use Rattle.std.specs.List.{All}
use Rattle.std.specs.Map.{keys_of}
use Rattle.std.specs.Str.{IsUtf8}
use Rattle.profile_model.specs.Stacks.{IsStack}
use Rattle.segment_file.proofs.rules.look_at_values.Given as goal

abbrev pub invariant-loop-stack : goal.invariant-loop-stack
invariant-loop-stack l = record {
  stacks : All IsStack (keys_of l.stack-iterator) → All IsStack (keys_of l.values);
  frames : All (All IsUtf8) (keys_of l.stack-iterator) → All (All IsUtf8) (keys_of l.values);
}
