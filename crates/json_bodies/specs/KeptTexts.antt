-- What is kept of a list while its items are read.
use Rattle.std.specs.Prelude.{◌≡◌, ℕ, List, ◌∷◌, ◌++◌, length, Option, Some, None, Result, Ok, Err, ⊤}
use Rattle.serde_json.specs.Data.{Data}
use Rattle.serde_json.specs.Find.{as_str}
use Rattle.json_bodies.specs.Fields.{each_said}
use Rattle.json_bodies.specs.Pushes.{raw_profile_in}
use Rattle.json_bodies.specs.declared.lists.Element.{Element}
use Rattle.json_bodies.specs.declared.lists.Element.TheVariants.{Text, Sample}

abbrev pub says_of : Element → Data → Option (List ℕ)
says_of Text = as_str
says_of Sample = raw_profile_in

-- the values before this place say something, and the one there says nothing
pub record IsCutAt {B : Type 0} (says : Data → Option B) (P : Data → Type 0) (ds : List Data) (at : ℕ) : Type 0 where
  pub before : List Data
  pub here : Data
  pub after : List Data
  pub found : List B
  pub whole : ds ≡ before ++ here ∷ after
  pub said : each_said says before ≡ Some found
  pub silent : says here ≡ None
  pub place : at ≡ length before
  pub more : P here

-- the texts that the values say, or the place of the first that says nothing
abbrev pub AreTexts : (Data → Option (List ℕ)) → List Data → Result (List (List ℕ)) ℕ → Type 0
AreTexts says ds (Ok texts) = each_said says ds ≡ Some texts
AreTexts says ds (Err at) = IsCutAt says (λ _. ⊤) ds at
