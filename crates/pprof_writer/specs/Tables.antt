-- The frames and the texts that a written pprof names by numbers.
use Rattle.std.specs.Prelude.{ℕ, Bool, ◌+◌, ◌++◌, List, [], ◌∷◌, fold, nat_eq, if◌then◌else◌}
use Rattle.std.specs.BTreeSet.{insert_key}
use Rattle.std.specs.Cmp.Lexicographic.{pointwise}
use Rattle.std.specs.List.{flat_map, list_any, position_or_len}
use Rattle.profile_model.specs.Stacks.{name_cmp}
use Rattle.profile_model.specs.Sums.{Sample}
use Rattle.profile_model.specs.declared.kind.ProfileType.{ProfileType}

-- the frames of all stacks in ascending order: each is put in its place, unless it is there
abbrev pub frames_in : List Sample → List (List ℕ)
frames_in sums = fold (insert_key name_cmp) [] (flat_map (λ sample. sample.0) sums)

-- a text is one of these
abbrev pub is_among : List (List ℕ) → List ℕ → Bool
is_among texts text = list_any (pointwise nat_eq text) texts

-- the place of a text, from 0
abbrev pub place_of : List (List ℕ) → List ℕ → ℕ
place_of texts text = position_or_len (pointwise nat_eq text) texts

-- a text comes behind the others, unless it is among them
abbrev pub with_text : List (List ℕ) → List ℕ → List (List ℕ)
with_text texts text = if is_among texts text then texts else texts ++ text ∷ []

-- the empty text and the type's parts, as they are first met
abbrev pub type_texts : ProfileType → List (List ℕ)
type_texts kind = fold with_text [] ([] ∷ kind.sample_type ∷ kind.sample_unit ∷ kind.period_type ∷ kind.period_unit ∷ [])

-- and then the frames
abbrev pub texts_of : ProfileType → List (List ℕ) → List (List ℕ)
texts_of kind frames = fold with_text (type_texts kind) frames

-- the frame's location, and its function: frames are counted from 1
abbrev pub id_of : List (List ℕ) → List ℕ → ℕ
id_of frames frame = place_of frames frame + 1
