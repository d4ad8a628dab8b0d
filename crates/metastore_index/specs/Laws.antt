-- What holds of all records, taken in turn.
use Rattle.std.specs.Prelude.{◌≡◌, ℕ, ◌^◌, ◌<◌, ◌≤◌, leb, ltb, ◌&&◌, List, [], ◌∷◌, ◌++◌, length}
use Rattle.std.specs.List.{All, AllPairs, Contains, filter}
use Rattle.metastore_index.specs.declared.entry.Entry.{Entry}
use Rattle.metastore_index.specs.Entries.{AreEntries, Becomes, Covers, HasRun, IndexView, IsTaken, end_of, of_level}
use Rattle.metastore_index.specs.Taken.{BodiesComeTo, ComesTo, IsBodyOf, Takes}

-- no record comes to nothing
abbrev pub NoneComeToNothing : Type 0
NoneComeToNothing = (index : IndexView) → index.entries ≡ [] → index.greatest ≡ 0 → ComesTo [] index × BodiesComeTo [] index

-- where the index that records come to takes one more, all of them come to what it leaves
abbrev pub OneMoreComes : Type 0
OneMoreComes =
    (taken : List Entry) (index : IndexView) (entry : Entry) (next : IndexView) → ComesTo taken index → Takes index entry next
    → ComesTo (taken ++ entry ∷ []) next

-- and so do their bodies
abbrev pub OneMoreBodyComes : Type 0
OneMoreBodyComes =
    (bodies : List (List ℕ)) (index : IndexView) (body : List ℕ) (entry : Entry) (next : IndexView) → BodiesComeTo bodies index
    → IsBodyOf body entry → Takes index entry next → BodiesComeTo (bodies ++ body ∷ []) next

-- the entries that live divide the pushes from 0 on, and no level is above an older one's
abbrev pub LiveOnesDivide : Type 0
LiveOnesDivide = (taken : List Entry) (index : IndexView) → ComesTo taken index → AreEntries index.entries

-- each of them was taken
abbrev pub LiveOnesWereTaken : Type 0
LiveOnesWereTaken = (taken : List Entry) (index : IndexView) → ComesTo taken index → All (Contains taken) index.entries

-- an id is above all older ones, and none is above the greatest, which is below 2^63
abbrev pub IdsRise : Type 0
IdsRise =
    (taken : List Entry) (index : IndexView) → ComesTo taken index
    → AllPairs (λ older newer. older.id < newer.id) taken × All (λ entry. entry.id ≤ index.greatest) taken × (index.greatest < 2 ^ 63)

-- a record of level 0 takes the end from its first push to behind its last, and any other leaves it
abbrev pub EndMoves : Type 0
EndMoves =
    (entries : List Entry) (entry : Entry) (next : List Entry) → Becomes entries entry next
    → (entry.level ≡ 0 → (entry.lo ≡ end_of entries) × (end_of next ≡ entry.hi)) × (1 ≤ entry.level → end_of next ≡ end_of entries)

-- the entry begins where one of these does
abbrev pub BeginsAmong : List Entry → Entry → Type 0
BeginsAmong entries entry = (older : Entry) × Contains entries older × (older.lo ≡ entry.lo)

-- a record that stands in for a run begins no live entry where none began before
abbrev pub BoundariesStay : Type 0
BoundariesStay =
    (entries : List Entry) (entry : Entry) (next : List Entry) → AreEntries entries → Becomes entries entry next → 1 ≤ entry.level
    → All (BeginsAmong entries) next

-- the runs over just these pushes have one level
abbrev pub OneRun : Type 0
OneRun =
    (entries : List Entry) → AreEntries entries → (lo hi level other : ℕ) → HasRun entries level lo hi → HasRun entries other lo hi → level ≡ other

-- before the entries of this level stand those of higher ones alone, and behind them those of lower ones
pub record IsStretch (entries before after : List Entry) (level : ℕ) : Type 0 where
  pub parts : entries ≡ before ++ of_level level entries ++ after
  pub above : All (λ entry. level < entry.level) before
  pub below : All (λ entry. entry.level < level) after

-- the entries of a level stand together
abbrev pub LevelsStandTogether : Type 0
LevelsStandTogether =
    (entries : List Entry) → AreEntries entries → (level : ℕ) → (before : List Entry) × (after : List Entry) × IsStretch entries before after level

-- the entry's pushes have this one among them
abbrev pub Holds : Entry → ℕ → Type 0
Holds entry at = (entry.lo ≤ at) × (at < entry.hi)

-- each push before the end is held by one of the entries, and by no other
pub record IsHeldOnce (entries : List Entry) (at : ℕ) : Type 0 where
  pub some : at < end_of entries → (cover : Entry) × Covers entries at cover
  pub before : (cover : Entry) → Covers entries at cover → at < end_of entries
  pub one : (cover other : Entry) → Covers entries at cover → Covers entries at other → cover ≡ other

abbrev pub EachIsHeldOnce : Type 0
EachIsHeldOnce = (entries : List Entry) → AreEntries entries → (at : ℕ) → IsHeldOnce entries at

-- where an entry comes, each push that isn't its own is held by the same live entries as before
abbrev pub OthersStay : Type 0
OthersStay =
    (entries : List Entry) (entry : Entry) (next : List Entry) → AreEntries entries → Becomes entries entry next
    → (at : ℕ) (cover : Entry) → ¬ (Holds entry at) → (Covers entries at cover → Covers next at cover) × (Covers next at cover → Covers entries at cover)

-- the pushes of the record are among those of one of these entries, whose level is no lower
pub record IsWithin (live : List Entry) (entry : Entry) : Type 0 where
  pub cover : Entry
  pub among : Contains live cover
  pub from : cover.lo ≤ entry.lo
  pub until : entry.hi ≤ cover.hi
  pub level : entry.level ≤ cover.level

-- the pushes of each record stand together in one live entry
abbrev pub LiveOnesCover : Type 0
LiveOnesCover = (taken : List Entry) (index : IndexView) → ComesTo taken index → All (IsWithin index.entries) taken

-- of two records that hold one push the later has the higher level
abbrev pub LaterIsHigher : Type 0
LaterIsHigher =
    (taken : List Entry) (index : IndexView) → ComesTo taken index
    → AllPairs (λ older newer. (at : ℕ) → Holds older at → Holds newer at → older.level < newer.level) taken

-- and the live one has the pushes of each record that holds this one, and the highest level of them
abbrev pub LiveOneIsHighest : Type 0
LiveOneIsHighest =
    (taken : List Entry) (index : IndexView) → ComesTo taken index → (at : ℕ) (cover : Entry) → Covers index.entries at cover
    → All (λ entry. Holds entry at → (cover.lo ≤ entry.lo) × (entry.hi ≤ cover.hi) × (entry.level ≤ cover.level)) taken

-- at most four records hold one push
abbrev pub AtMostFourHold : Type 0
AtMostFourHold =
    (taken : List Entry) (index : IndexView) → ComesTo taken index → (at : ℕ)
    → length (filter (λ entry. leb entry.lo at && ltb at entry.hi) taken) ≤ 4

-- the same entries live, and the greatest id is the same
pub record IsSameIndex (index other : IndexView) : Type 0 where
  pub entries : index.entries ≡ other.entries
  pub greatest : index.greatest ≡ other.greatest

-- records come to one index
abbrev pub OneIndex : Type 0
OneIndex = (taken : List Entry) (index other : IndexView) → ComesTo taken index → ComesTo taken other → IsSameIndex index other

-- and so do bodies, whoever reads them
abbrev pub OneIndexOfBodies : Type 0
OneIndexOfBodies = (bodies : List (List ℕ)) (index other : IndexView) → BodiesComeTo bodies index → BodiesComeTo bodies other → IsSameIndex index other

-- whoever reads the bodies of an index file in turn can take each
abbrev pub NextIsTaken : Type 0
NextIsTaken =
    (bodies : List (List ℕ)) (body : List ℕ) (more : List (List ℕ)) (index last : IndexView) (entry : Entry)
    → BodiesComeTo (bodies ++ body ∷ more) last → BodiesComeTo bodies index → IsBodyOf body entry → IsTaken index entry

-- a body is the record of one entry at most
abbrev pub OneReading : Type 0
OneReading = (body : List ℕ) (entry other : Entry) → IsBodyOf body entry → IsBodyOf body other → entry ≡ other

-- the body is the record of some entry
abbrev pub Reads : List ℕ → Type 0
Reads body = (entry : Entry) × IsBodyOf body entry

-- each body of an index file can be read
abbrev pub EachBodyReads : Type 0
EachBodyReads = (bodies : List (List ℕ)) (index : IndexView) → BodiesComeTo bodies index → All Reads bodies

-- where all bodies come to an index, so do the first of them, however many
abbrev pub FrontComes : Type 0
FrontComes = (bodies more : List (List ℕ)) (last : IndexView) → BodiesComeTo (bodies ++ more) last → (index : IndexView) × BodiesComeTo bodies index
