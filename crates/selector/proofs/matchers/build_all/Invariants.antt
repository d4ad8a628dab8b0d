use Rattle.std.proofs.Common.{◌≡◌, ◌≤◌, ◌++◌, map, length}
use Rattle.selector.specs.Limits.{most_matchers}
use Rattle.selector.specs.Matchers.{matching_of}
use Rattle.selector.specs.Read.{AreShort, ForPatterns}
use Rattle.selector.specs.Patterns.{IsWellFormed}
use Rattle.selector.specs.Rests as rests
use Rattle.selector.proofs.matchers.build_all.Given as goal

abbrev pub invariant-loop-matcher : goal.invariant-loop-matcher
invariant-loop-matcher l = record {
  few : length l.fn.written.items ≤ most_matchers;
  short : AreShort (map rests.matching_of l.fn.written.items);
  together : map matching_of l.matchers.items ++ map rests.matching_of l.matcher-iterator.rest.items ≡ map rests.matching_of l.fn.written.items;
  formed : ForPatterns IsWellFormed (map matching_of l.matchers.items);
}
