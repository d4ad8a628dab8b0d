use Rattle.std.proofs.Common.{◌≡◌, length, take}
use Rattle.folded_reader.specs.Folded.{IsSumOf, lines_of}
use Rattle.folded_reader.proofs.reader.sums_of_text.Given as goal

abbrev pub invariant-loop-line : goal.invariant-loop-line
invariant-loop-line l = record {
  counted : l.number ≡ length l.yielded;
  summed : IsSumOf l.form (take (length l.yielded) (lines_of l.text)) l.sums;
}
