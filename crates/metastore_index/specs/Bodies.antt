-- An entry as a record of the index file: six numbers of eight bytes, the highest byte first, the level, and fourteen bytes 0.
use Rattle.std.specs.Prelude.{ℕ, List, [], ◌∷◌, ◌++◌, replicate}
use Rattle.std.specs.Int.{bytes_high_first}
use Rattle.std.specs.List.{flat_map}
use Rattle.metastore_index.specs.declared.entry.Entry.{Entry}

abbrev pub body_of : Entry → List ℕ
body_of entry =
    flat_map (bytes_high_first 8) (entry.lo ∷ entry.hi ∷ entry.id ∷ entry.length ∷ entry.tmin ∷ entry.tmax ∷ [])
    ++ entry.level ∷ replicate 14 0
