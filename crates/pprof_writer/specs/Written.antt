-- The bytes of a written pprof: messages of pprof's profile.proto in one order, each with as few fields as it needs.
use Rattle.std.specs.Prelude.{ℕ, List, [], ◌∷◌, ◌++◌, length, map, reverse}
use Rattle.std.specs.List.{enumerate_from, flat_map, range_with_len}
use Rattle.wire_proto.specs.Writing.{varint}
use Rattle.profile_model.specs.Sums.{Sample}
use Rattle.profile_model.specs.declared.kind.ProfileType.{ProfileType}
use Rattle.pprof_writer.specs.Fields.{Field, Number, Part, message}
use Rattle.pprof_writer.specs.Tables.{frames_in, id_of, place_of, texts_of}

-- numbers in a packed field
abbrev pub packed : List ℕ → List ℕ
packed numbers = flat_map varint numbers

-- a `ValueType`: the places of its two texts
unfoldable pub value_type : List (List ℕ) → List ℕ → List ℕ → List ℕ
value_type texts kind unit = message (Number 1 (place_of texts kind) ∷ Number 2 (place_of texts unit) ∷ [])

-- a `Sample`: the locations of its frames, the leaf first, and its value
unfoldable pub written_sample : List (List ℕ) → Sample → List ℕ
written_sample frames sample =
    message (Part 1 (packed (map (id_of frames) (reverse sample.0))) ∷ Part 2 (packed (sample.1 ∷ [])) ∷ [])

-- a `Line` of the function with this id
unfoldable pub written_line : ℕ → List ℕ
written_line id = message (Number 1 id ∷ [])

-- a `Location`: its id, and one line of the function with this id
unfoldable pub written_location : ℕ → List ℕ
written_location id = message (Number 1 id ∷ Part 4 (written_line id) ∷ [])

-- a `Function`: its id, and the place of its name
unfoldable pub written_function : ℕ × ℕ → List ℕ
written_function one = message (Number 1 one.0 ∷ Number 2 one.1 ∷ [])

-- messages in fields of this number
abbrev pub fields_with : {X : Type 0} → ℕ → (X → List ℕ) → List X → List Field
fields_with number bytes members = map (λ member. Part number (bytes member)) members

-- the fields of a `Profile` of sums, with these frames and texts
abbrev pub profile_fields : List (List ℕ) → List (List ℕ) → ProfileType → List Sample → List Field
profile_fields frames texts kind sums =
    (Part 1 (value_type texts kind.sample_type kind.sample_unit) ∷ [])
    ++ fields_with 2 (written_sample frames) sums
    ++ fields_with 4 written_location (range_with_len 1 (length frames))
    ++ fields_with 5 written_function (enumerate_from 1 (map (place_of texts) frames))
    ++ fields_with 6 (λ text. text) texts
    ++ (Part 11 (value_type texts kind.period_type kind.period_unit) ∷ [])

unfoldable pub written_pprof : ProfileType → List Sample → List ℕ
written_pprof kind sums = let frames = frames_in sums in message (profile_fields frames (texts_of kind frames) kind sums)
