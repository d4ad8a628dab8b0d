use Rattle.std.proofs.Common.{◌≡◌, map, drop}
use Rattle.std.specs.List.{list_all}
use Rattle.selector.specs.Matching.{holds, seen_labels}
use Rattle.selector.specs.Matchers.{matching_of}
use Rattle.selector.proofs.matchers.all_hold.Given as goal

abbrev pub invariant-loop-matcher : goal.invariant-loop-matcher
invariant-loop-matcher l = record {
  same : map matching_of l.matchers ≡ map matching_of l.fn.matchers;
  held : list_all (holds (seen_labels l.labels l.kind)) (drop l.matcher-index (map matching_of l.fn.matchers))
      ≡ list_all (holds (seen_labels l.labels l.kind)) (map matching_of l.fn.matchers);
}
