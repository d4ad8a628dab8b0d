use Rattle.std.proofs.Common.{◌++◌, ℕ, List, length, map}
use Rattle.std.specs.Prelude.{IsFalse}
use denote.Text.{Utf8}
use denote.Shadow.{shadow}
use Rattle.selector.specs.Matching.{Matching}
use Rattle.selector.specs.Grammar.{IsInside, is_space}
use Rattle.selector.specs.Runs.{begins_with}
use Rattle.selector.specs.Rests.{AtInside, IsBrokenOff, matching_of}
use Rattle.selector.proofs.inside.read_inside.Given as goal

abbrev pub invariant-loop-end : goal.invariant-loop-end
invariant-loop-end l = record {
  utf8 : shadow (Utf8 l.rest);
  settled : IsFalse (begins_with is_space l.rest);
  reads : (matchers : List Matching) → IsInside l.rest matchers → IsInside l.text (map matching_of l.matchers.items ++ matchers);
  breaks : (left : ℕ) → IsBrokenOff AtInside l.rest left → IsBrokenOff AtInside l.text left;
}

abbrev pub decreases-loop-end : goal.decreases-loop-end
decreases-loop-end l = length l.rest
