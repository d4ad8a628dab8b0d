use Rattle.std.proofs.Common.{◌≡◌, ◌++◌, map}
use Rattle.std.specs.List.{All}
use Rattle.std.specs.List.Sorted.{IsStrictlySortedBy}
use Rattle.std.specs.Map.{keys_of}
use Rattle.std.specs.Ordering.{nat_cmp}
use Rattle.query_merge.proofs.groups.Groups.series.Given as goal

abbrev pub invariant-loop-labels : goal.invariant-loop-labels
invariant-loop-labels l = record {
  groups : map (λ one. (one.labels, one.points.items)) l.series.items ++ map (λ entry. (entry.0, entry.1.entries)) l.labels-iterator ≡ l.self.groups;
  points : All (λ one. IsStrictlySortedBy nat_cmp (keys_of one.points.items)) l.series.items;
}
