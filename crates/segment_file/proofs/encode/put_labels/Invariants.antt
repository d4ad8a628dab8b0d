use Rattle.std.proofs.Common.{◌≡◌, ◌++◌, drop}
use Rattle.std.specs.List.{All, flat_map}
use Rattle.std.specs.Map.{keys_of, values_of}
use Rattle.std.specs.Str.{IsUtf8}
use Rattle.segment_file.specs.Bytes.{label_bytes, labels_bytes}
use Rattle.segment_file.proofs.encode.put_labels.Given as goal

-- what is written, with what is left behind it, is the whole
abbrev pub invariant-loop-label : goal.invariant-loop-label
invariant-loop-label l = record {
  bytes : l.out.items ++ flat_map label_bytes (drop l.label-index l.pairs) ≡ l.fn.out.items ++ labels_bytes l.pairs;
  names : All IsUtf8 (keys_of (drop l.label-index l.pairs)) → All IsUtf8 (keys_of l.pairs);
  values : All IsUtf8 (values_of (drop l.label-index l.pairs)) → All IsUtf8 (values_of l.pairs);
}
