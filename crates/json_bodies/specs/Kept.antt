-- What is kept of an object while its members are read.
use Rattle.std.specs.Prelude.{◌≡◌, ℕ, List, codes, MatchOption, Result, Err, Option, option_map, option_and_then}
use Rattle.std.specs.Borrow.{Bor}
use Rattle.serde_json.specs.Data.{Data, Members, object}
use Rattle.json_bodies.specs.Pushes.{raw_profile_in, text_at}
use Rattle.json_bodies.specs.KeptTexts.{AreTexts}
use Rattle.json_bodies.specs.declared.leaves.LabelTexts.{LabelTexts}

-- a label of a name and a value, where there are both
abbrev pub label_from : Option (List ℕ) → Option (List ℕ) → Option (List ℕ × List ℕ)
label_from name value = option_and_then (λ n. option_map (λ v. (n, v)) value) name

pub record AreLabelTexts (found : Members) (texts : LabelTexts) : Type 0 where
  pub name : text_at (codes "name") (object found) ≡ option_map (λ t. t.now) texts.name
  pub value : text_at (codes "value") (object found) ≡ option_map (λ t. t.now) texts.value

abbrev pub IsSampleText : Members → Option (Bor (List ℕ)) → Type 0
IsSampleText found raw = text_at (codes "rawProfile") (object found) ≡ option_map (λ t. t.now) raw

-- the raw profiles of samples, or the first sample that has none, or 0 where there are no samples
abbrev pub AreSamples : Option (List Data) → Result (List (List ℕ)) ℕ → Type 0
AreSamples samples raws = MatchOption samples (raws ≡ Err 0) (λ ds. AreTexts raw_profile_in ds raws)
