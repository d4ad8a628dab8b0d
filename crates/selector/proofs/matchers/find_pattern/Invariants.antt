use Rattle.std.proofs.Common.{map, drop}
use Rattle.selector.specs.Matchers.{matching_of}
use Rattle.selector.specs.Read.{ForPatterns}
use Rattle.selector.specs.Patterns.{IsWellFormed}
use Rattle.selector.specs.Building.{IsNew}
use Rattle.selector.proofs.matchers.find_pattern.Given as goal

abbrev pub invariant-loop-matcher : goal.invariant-loop-matcher
invariant-loop-matcher l = record {
  formed : ForPatterns IsWellFormed (map matching_of (drop l.matcher-index l.matchers));
  others : IsNew (map matching_of (drop l.matcher-index l.matchers)) l.text → IsNew (map matching_of l.matchers) l.text;
}
