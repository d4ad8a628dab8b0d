use Rattle.std.proofs.Common.{◌≡◌, ◌++◌, ℕ, List, length, string_bytes}
use denote.Text.{Utf8}
use denote.Shadow.{shadow}
use Rattle.selector.specs.Grammar.{AreWritten}
use Rattle.selector.proofs.tokens.read_written.Given as goal

abbrev pub invariant-loop-value : goal.invariant-loop-value
invariant-loop-value l = record {
  utf8 : shadow (Utf8 l.rest);
  read : (done : List ℕ) × (l.text ≡ done ++ l.rest) × AreWritten done (string_bytes l.value);
}

abbrev pub decreases-loop-value : goal.decreases-loop-value
decreases-loop-value l = length l.rest
