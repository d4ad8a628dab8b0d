-- What the body of a push says. A label, a sample and a series each say something or nothing; a list says what
-- its members say, where each says something.
use Rattle.std.specs.Prelude.{ℕ, List, [], codes, Option, Some, option_map, option_and_then, is_some, if◌then◌else◌}
use Rattle.std.specs.List.{position}
use Rattle.std.specs.Option.{is_none, option_map_or}
use Rattle.serde_json.specs.Data.{Data}
use Rattle.serde_json.specs.Find.{get, as_str}
use Rattle.json_bodies.specs.Fields.{each_said, as_list, said}

-- a text that has to be there
abbrev pub text_at : List ℕ → Data → Option (List ℕ)
text_at key value = option_and_then as_str (get key value)

-- a list that has to be there
abbrev pub list_at : List ℕ → Data → Option (List Data)
list_at key value = option_and_then as_list (get key value)

-- a label has the texts `name` and `value`
abbrev pub label_in : Data → Option (List ℕ × List ℕ)
label_in label =
    option_and_then (λ name. option_map (λ value. (name, value)) (text_at (codes "value") label)) (text_at (codes "name") label)

abbrev pub labels_in : Data → Option (List (List ℕ × List ℕ))
labels_in series = option_and_then (each_said label_in) (list_at (codes "labels") series)

-- a sample has a text `rawProfile`
abbrev pub raw_profile_in : Data → Option (List ℕ)
raw_profile_in sample = text_at (codes "rawProfile") sample

abbrev pub samples_in : Data → Option (List Data)
samples_in series = list_at (codes "samples") series

abbrev pub raw_profiles_in : Data → Option (List (List ℕ))
raw_profiles_in series = option_and_then (each_said raw_profile_in) (samples_in series)

-- a series has labels and samples, even if it has none of them
abbrev pub series_in : Data → Option (List (List ℕ × List ℕ) × List (List ℕ))
series_in series =
    option_and_then (λ labels. option_map (λ raws. (labels, raws)) (raw_profiles_in series)) (labels_in series)

-- the members of a push, none where they are absent
abbrev pub members_in : Data → Option (List Data)
members_in push = said as_list [] (get (codes "series") push)

abbrev pub push_in : Data → Option (List (List (List ℕ × List ℕ) × List (List ℕ)))
push_in push = option_and_then (each_said series_in) (members_in push)

-- the place of the first that says nothing
abbrev pub first_silent : {A B : Type 0} → (A → Option B) → List A → Option ℕ
first_silent says xs = position (λ x. is_none (says x)) xs

-- where a series says nothing: at its first sample that does, or at 0 for its labels and for the series itself
abbrev pub silent_sample : Data → Option ℕ
silent_sample series =
    if is_some (labels_in series) then option_map_or (first_silent raw_profile_in) (samples_in series) (Some 0) else Some 0
