use Rattle.std.proofs.Common.{◌≡◌, ◌<◌, ◌^◌, ◌++◌, length, take}
use Rattle.std.specs.List.{All}
use Rattle.std.specs.Str.{IsUtf8}
use Rattle.pprof_writer.specs.Fields.{message}
use Rattle.pprof_writer.specs.Written.{fields_with}
use Rattle.pprof_writer.proofs.writer.put_texts.Given as goal

abbrev pub invariant-loop-text : goal.invariant-loop-text
invariant-loop-text l = record {
  written : l.out.items ≡ l.fn.out.items ++ message (fields_with 6 (λ text. text) (take l.text-index l.texts));
  utf8 : All IsUtf8 (take l.text-index l.texts);
  short : All (λ text. length text < 2 ^ 64) (take l.text-index l.texts);
}
