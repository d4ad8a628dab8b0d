-- The live entries of a store, and what becomes of them.
use Rattle.std.specs.Prelude.{◌≡◌, ◌≢◌, ◌⊎◌, ℕ, ◌-◌, ◌^◌, ◌<◌, ◌≤◌, List, [], ◌∷◌, ◌++◌, nat_eq}
use Rattle.std.specs.List.{All, AllPairs, Contains, filter}
use Rattle.metastore_index.specs.declared.entry.Entry.{Entry}

-- the push after the last of these entries
abbrev pub end_of : List Entry → ℕ
end_of [] = 0
end_of (entry ∷ []) = entry.hi
end_of (entry ∷ next ∷ more) = end_of (next ∷ more)

-- each begins where the one before ends, the first here
abbrev pub DivideFrom : ℕ → List Entry → Type 0
DivideFrom start [] = Unit {0}
DivideFrom start (entry ∷ more) = (entry.lo ≡ start) × DivideFrom entry.hi more

-- the entries divide the pushes from 0 on, and no level is above an older one's
pub record AreEntries (entries : List Entry) : Type 0 where
  pub divide : DivideFrom 0 entries
  pub levels : AllPairs (λ older newer. newer.level ≤ older.level) entries

-- the entries of this level, from the oldest on
abbrev pub of_level : ℕ → List Entry → List Entry
of_level level entries = filter (λ entry. nat_eq entry.level level) entries

-- entries of one level that cover just these pushes, the first of them the oldest of its level
pub record IsRunOver (before run after : List Entry) (level lo hi : ℕ) : Type 0 where
  pub some : run ≢ []
  pub alike : All (λ entry. entry.level ≡ level) run
  pub oldest : All (λ entry. entry.level ≢ level) before
  pub from : end_of before ≡ lo
  pub until : end_of (before ++ run) ≡ hi

-- the index, as contracts see it: its entries, the greatest id that it ever took, and how many more it has room for; an
-- entry that it takes leaves room for at most one fewer
pub record IndexView : Type 0 where
  pub entries : List Entry
  pub greatest : ℕ
  pub spare : ℕ

-- the entry follows the last one
abbrev pub Follows : List Entry → Entry → Type 0
Follows entries entry = (entry.lo ≡ end_of entries) × (entry.level ≡ 0)

-- these entries have a run of this level over just these pushes
abbrev pub HasRun : List Entry → ℕ → ℕ → ℕ → Type 0
HasRun entries level lo hi =
    (before : List Entry) × (run : List Entry) × (after : List Entry) × (entries ≡ before ++ run ++ after) × IsRunOver before run after level lo hi

-- the entry follows the last one, or there is a run of the level below its own over just its pushes
abbrev pub HasPlace : List Entry → Entry → Type 0
HasPlace entries entry = Follows entries entry ⊎ ((1 ≤ entry.level) × HasRun entries (entry.level - 1) entry.lo entry.hi)

-- The entry goes behind the last one, or stands in for a run of the level below its own.
pub data Becomes (entries : List Entry) (entry : Entry) (next : List Entry) : Type 0 where
  follows : Follows entries entry → next ≡ entries ++ entry ∷ [] → Becomes entries entry next
  stands : (before run after : List Entry) → entries ≡ before ++ run ++ after → 1 ≤ entry.level
      → IsRunOver before run after (entry.level - 1) entry.lo entry.hi → next ≡ before ++ entry ∷ after → Becomes entries entry next

-- an entry is taken that has an id still to come, and follows or stands in for a run
pub record IsTaken (index : IndexView) (entry : Entry) : Type 0 where
  pub later : index.greatest < entry.id
  pub bounded : entry.id < 2 ^ 63
  pub fits : HasPlace index.entries entry

-- the entry holds the push
pub record Covers (entries : List Entry) (at : ℕ) (entry : Entry) : Type 0 where
  pub among : Contains entries entry
  pub from : entry.lo ≤ at
  pub until : at < entry.hi
