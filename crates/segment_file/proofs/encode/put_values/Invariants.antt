use Rattle.std.proofs.Common.{◌≡◌, ◌++◌}
use Rattle.std.specs.List.{All, flat_map}
use Rattle.std.specs.Map.{keys_of}
use Rattle.std.specs.Str.{IsUtf8}
use Rattle.profile_model.specs.Stacks.{IsStack}
use Rattle.segment_file.specs.Bytes.{sample_bytes, values_bytes}
use Rattle.segment_file.proofs.encode.put_values.Given as goal

abbrev pub invariant-loop-stack : goal.invariant-loop-stack
invariant-loop-stack l = record {
  bytes : l.out.items ++ flat_map sample_bytes l.stack-iterator ≡ l.fn.out.items ++ values_bytes l.values;
  stacks : All IsStack (keys_of l.stack-iterator) → All IsStack (keys_of l.values);
  frames : All (All IsUtf8) (keys_of l.stack-iterator) → All (All IsUtf8) (keys_of l.values);
}
