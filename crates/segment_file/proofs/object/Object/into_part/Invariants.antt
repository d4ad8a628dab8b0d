use Rattle.std.proofs.Common.{◌≡◌, ◌++◌, ◌+◌, ◌<◌, ◌^◌, length}
use Rattle.std.specs.Vec.Iter.{into_iter_items}
use Rattle.segment_file.proofs.PartLemmas.{found_in}
use Rattle.segment_file.proofs.object.Object.into_part.Given as goal

abbrev pub invariant-loop-push : goal.invariant-loop-push
invariant-loop-push l = record {
  next : (goal.iterator-loop-push).can_next l.push-iterator;
  finite : (goal.iterator-loop-push).is_finite l.push-iterator;
  rows : l.rows.items ++ found_in l.ask l.from l.until l.number (into_iter_items l.push-iterator) ≡ found_in l.ask l.from l.until l.fn.self.lo l.fn.self.pushes;
  within : l.number + length (into_iter_items l.push-iterator) < 2 ^ 64;
}
