use Rattle.std.proofs.Common.{◌≡◌, ◌++◌}
use Rattle.std.specs.List.{AllByRecursion}
use Rattle.std.specs.Vec.Iter.{into_iter_items}
use Rattle.block_merge.specs.Merges.{pushes_of}
use Rattle.block_merge.proofs.RoomLemmas.{HasRoom}
use Rattle.block_merge.proofs.merging.merge.Given as goal

abbrev pub invariant-loop-object : goal.invariant-loop-object
invariant-loop-object l = record {
  next : (goal.iterator-loop-object).can_next l.object-iterator;
  finite : (goal.iterator-loop-object).is_finite l.object-iterator;
  moved : l.pushes.items ++ pushes_of (into_iter_items l.object-iterator) ≡ pushes_of l.fn.objects.items;
  rooms : AllByRecursion HasRoom (into_iter_items l.object-iterator) → AllByRecursion HasRoom l.fn.objects.items;
}
