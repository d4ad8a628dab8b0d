use Rattle.std.proofs.Common.{drop}
use Rattle.std.specs.List.{All}
use Rattle.std.specs.Map.{keys_of, values_of}
use Rattle.std.specs.Str.{IsUtf8}
use Rattle.segment_file.proofs.rules.look_at_labels.Given as goal

abbrev pub invariant-loop-label : goal.invariant-loop-label
invariant-loop-label l = record {
  names : All IsUtf8 (keys_of (drop l.label-index l.pairs)) → All IsUtf8 (keys_of l.pairs);
  values : All IsUtf8 (values_of (drop l.label-index l.pairs)) → All IsUtf8 (values_of l.pairs);
}
