-- What records come to, each taken in turn.
use Rattle.std.specs.Prelude.{◌≡◌, ℕ, ◌^◌, ◌<◌, List, [], ◌∷◌}
use Rattle.std.specs.List.{AllZip}
use Rattle.metastore_index.specs.declared.entry.Entry.{Entry}
use Rattle.metastore_index.specs.Bodies.{body_of}
use Rattle.metastore_index.specs.Entries.{Becomes, IndexView, IsTaken}

-- the index before anything was taken
abbrev pub nothing : IndexView
nothing = record { entries = []; greatest = 0; spare = 0 }

-- the index takes the entry and is this one then, whatever memory it has
pub record Takes (index : IndexView) (entry : Entry) (next : IndexView) : Type 0 where
  pub taken : IsTaken index entry
  pub becomes : Becomes index.entries entry next.entries
  pub greatest : next.greatest ≡ entry.id

-- from this index on each entry is taken in turn, the first one first, and the last leaves that one
abbrev pub ComesFrom : IndexView → List Entry → IndexView → Type 0
ComesFrom index [] last = (last.entries ≡ index.entries) × (last.greatest ≡ index.greatest)
ComesFrom index (entry ∷ later) last = (next : IndexView) × Takes index entry next × ComesFrom next later last

-- these entries, each taken in turn from nothing on, leave this index
abbrev pub ComesTo : List Entry → IndexView → Type 0
ComesTo taken index = ComesFrom nothing taken index

-- the body is the entry's record, and each of its numbers stands there whole
pub record IsBodyOf (body : List ℕ) (entry : Entry) : Type 0 where
  pub same : body ≡ body_of entry
  pub hi : entry.hi < 2 ^ 64
  pub id : entry.id < 2 ^ 64
  pub length : entry.length < 2 ^ 64
  pub tmin : entry.tmin < 2 ^ 64
  pub tmax : entry.tmax < 2 ^ 64

-- what the bodies of an index file come to
abbrev pub BodiesComeTo : List (List ℕ) → IndexView → Type 0
BodiesComeTo bodies index = (taken : List Entry) × AllZip IsBodyOf bodies taken × ComesTo taken index
