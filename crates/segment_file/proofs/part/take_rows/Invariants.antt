use Rattle.std.proofs.Common.{◌≡◌, ◌++◌, ◌+◌, ◌≤◌, filter, length}
use Rattle.std.specs.Vec.Iter.{into_iter_items}
use Rattle.profile_model.specs.Limits.{most_profiles}
use Rattle.segment_file.specs.Parts.{is_within, rows_of_push}
use Rattle.segment_file.proofs.PartLemmas.{placed}
use Rattle.segment_file.proofs.part.take_rows.Given as goal

abbrev pub invariant-loop-profile : goal.invariant-loop-profile
invariant-loop-profile l = record {
  next : (goal.iterator-loop-profile).can_next l.profile-iterator;
  finite : (goal.iterator-loop-profile).is_finite l.profile-iterator;
  rows : l.rows.items ++ filter (is_within l.ask) (placed l.number l.place (into_iter_items l.profile-iterator))
      ≡ l.fn.rows.items ++ filter (is_within l.ask) (rows_of_push (l.number, l.fn.push));
  few : l.place + length (into_iter_items l.profile-iterator) ≤ most_profiles;
}
