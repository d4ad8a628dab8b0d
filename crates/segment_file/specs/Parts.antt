-- A tenant's profiles in a stretch of pushes.
use Rattle.std.specs.Prelude.{◌&&◌, ℕ, ◌+◌, Bool, List, length, map, filter, min, nat_eq, nat_le, nat_lt}
use Rattle.std.specs.List.{enumerate_from, flat_map}
use Rattle.std.specs.Cmp.Lexicographic.{pointwise}
use Rattle.profile_model.specs.declared.part_ask.PartAsk.{PartAsk}
use Rattle.profile_model.specs.declared.push.Push.{Push}
use Rattle.segment_file.specs.declared.part.Row.{Row}

-- what was found in pushes number `from` to `until` - 1
pub record PartView : Type 0 where
  pub from : ℕ
  pub until : ℕ
  pub rows : List Row

-- the profiles of a push that has this number, in order
abbrev pub rows_of_push : ℕ × Push → List Row
rows_of_push numbered =
    map (λ placed. record { push = numbered.0; place = placed.0; profile = placed.1 }) (enumerate_from 0 numbered.1.profiles)

-- the pushes from `from` to below `until`, each with its number, of pushes that are numbered from lo on
abbrev pub pushes_between : ℕ → List Push → ℕ → ℕ → List (ℕ × Push)
pushes_between lo pushes from until = filter (λ numbered. nat_le from numbered.0 && nat_lt numbered.0 until) (enumerate_from lo pushes)

abbrev pub is_of : List ℕ → ℕ × Push → Bool
is_of tenant numbered = pointwise nat_eq numbered.1.tenant tenant

-- the time is in the ask's window
abbrev pub is_within : PartAsk → Row → Bool
is_within ask row = nat_le ask.from_ms row.profile.time_ms && nat_le row.profile.time_ms ask.until_ms

-- What the ask finds in pushes number `from` to `until` - 1 of an object's. Where the object ends before `until`, the part
-- ends there.
abbrev pub part_of : ℕ → List Push → ℕ → ℕ → PartAsk → PartView
part_of lo pushes from until ask = record {
  from = from;
  until = min until (lo + length pushes);
  rows = filter (is_within ask) (flat_map rows_of_push (filter (is_of ask.tenant) (pushes_between lo pushes from until)));
}
