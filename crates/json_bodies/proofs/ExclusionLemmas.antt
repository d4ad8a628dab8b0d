-- An object that is read has no fault.
use Rattle.std.proofs.Common.{◌≡◌, ℕ, suc, List, [], ◌∷◌, ◌++◌, get_or, take, drop, Bool, true, true≢false, not, Option, Some, None, refl, sym, ap, ◌∙◌, drop-cons}
use Rattle.std.specs.Option.{MatchOption, is_none, is_some, option_and_then, option_map}
use Rattle.std.specs.List.{position}
use Rattle.std.proofs.lemmas.List.{take-append-drop}
use Rattle.std.proofs.lemmas.List.Quantifiers.{position-Some}
use Rattle.std.proofs.lemmas.Option.{none-some}
use Rattle.serde_json.specs.Data.{Data, null}
use Rattle.json_bodies.specs.Fields.{each_said, end_of}
use Rattle.json_bodies.specs.FieldFaults.{IsFirstWrong}
use Rattle.json_bodies.specs.Pushes.{first_silent, members_in, push_in, series_in}
use Rattle.json_bodies.specs.PushFaults.{IsFaultOfMembers, IsShapeFault}
use Rattle.json_bodies.specs.Queries.{IsLabelNames, IsLabelValues, IsSeries, label_names_kinds, label_values_kinds, series_kinds}
use Rattle.json_bodies.specs.declared.fields.FieldFault.TheVariants.{WrongKind}
use Rattle.json_bodies.specs.declared.push.ShapeFault.TheVariants.{Wrong}
use Rattle.json_bodies.specs.declared.queries.LabelNamesBody.{LabelNamesBody}
use Rattle.json_bodies.specs.declared.queries.LabelValuesBody.{LabelValuesBody}
use Rattle.json_bodies.specs.declared.queries.SeriesBody.{SeriesBody}
use Rattle.json_bodies.proofs.SaidLemmas.{each_said_none}

-- ---- fields

some_is : {A : Type 0} (o : Option A) (a : A) → o ≡ Some a → is_some o ≡ true
some_is o a is = ap is_some is

mapped_is : {A B : Type 0} (f : A → B) (o : Option A) (b : B) → option_map f o ≡ Some b → is_some o ≡ true
mapped_is f None b is = absurd (none-some b is)
mapped_is f (Some a) b is = refl

three_right : (a b c : Bool) (at : ℕ) → a ≡ true → b ≡ true → c ≡ true → ¬ (position not (a ∷ b ∷ c ∷ []) ≡ Some at)
three_right a b c at ha hb hc wrong = none-some at (rw (ha, hb, hc) at wrong)

four_right : (a b c d : Bool) (at : ℕ) → a ≡ true → b ≡ true → c ≡ true → d ≡ true → ¬ (position not (a ∷ b ∷ c ∷ d ∷ []) ≡ Some at)
four_right a b c d at ha hb hc hd wrong = none-some at (rw (ha, hb, hc, hd) at wrong)

pub names_right : (value : Data) (body : LabelNamesBody) (at : ℕ) → IsLabelNames value body
    → ¬ (IsFirstWrong (label_names_kinds value) (WrongKind at))
names_right value body at is = three_right _ _ _ at (some_is _ _ is.matchers) (some_is _ _ is.start) (mapped_is end_of _ _ is.end)

pub values_right : (value : Data) (body : LabelValuesBody) (at : ℕ) → IsLabelValues value body
    → ¬ (IsFirstWrong (label_values_kinds value) (WrongKind at))
values_right value body at is = four_right _ _ _ _ at (some_is _ _ is.name) (some_is _ _ is.matchers)
    (some_is _ _ is.start) (mapped_is end_of _ _ is.end)

pub series_right : (value : Data) (body : SeriesBody) (at : ℕ) → IsSeries value body → ¬ (IsFirstWrong (series_kinds value) (WrongKind at))
series_right value body at is = four_right _ _ _ _ at (some_is _ _ is.matchers) (some_is _ _ is.label_names)
    (some_is _ _ is.start) (mapped_is end_of _ _ is.end)

-- ---- pushes

none_is : {A : Type 0} (o : Option A) → is_none o ≡ true → o ≡ None
none_is None is = refl
none_is (Some a) is = absurd (true≢false (sym is))

silent_says_nothing : {B : Type 0} (says : Data → Option B) (xs : List Data) (i : ℕ) → first_silent says xs ≡ Some i
    → each_said says xs ≡ None
silent_says_nothing says xs i first =
    let here = position-Some (λ x. is_none (says x)) xs i null first in
    let cut : xs ≡ take i xs ++ get_or xs i null ∷ drop (suc i) xs = sym (take-append-drop i xs)
    ∙ ap (λ rest. take i xs ++ rest) (drop-cons xs i null here.0) in
    ap (each_said says) cut ∙ each_said_none says (take i xs) (drop (suc i) xs) (get_or xs i null) (none_is _ here.1)

no_members : (members : Option (List Data)) (i j : ℕ)
    → MatchOption members ((i ≡ 0) × (j ≡ 0)) (λ found. IsFaultOfMembers found (Wrong i j))
    → option_and_then (each_said series_in) members ≡ None
no_members None i j fault = refl
no_members (Some members) i j fault = silent_says_nothing series_in members i fault.0

pub no_push : (value : Data) (i j : ℕ) → IsShapeFault value (Wrong i j) → push_in value ≡ None
no_push value i j fault = no_members (members_in value) i j fault
