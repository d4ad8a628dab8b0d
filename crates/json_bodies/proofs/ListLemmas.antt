-- Lists that are kept as far as their values say something.
use Rattle.std.proofs.Common.{◌≡◌, ℕ, ◌<◌, List, [], ◌∷◌, ◌++◌, length, Option, Some, None, Result, Ok, Err, refl, ap, ◌∙◌, arith, append_assoc, length-append}
use Rattle.std.specs.Prelude.{⊤}
use Rattle.std.specs.Option.{is_none}
use Rattle.std.specs.Result.{result_ok}
use Rattle.serde_json.specs.Data.{Data}
use Rattle.json_bodies.specs.Fields.{each_said}
use Rattle.json_bodies.specs.Pushes.{first_silent}
use Rattle.json_bodies.specs.KeptTexts.{AreTexts, IsCutAt}
use Rattle.json_bodies.specs.Walks.{IfNoJson}
use Rattle.json_bodies.specs.declared.walk.Stop.{Stop}
use Rattle.json_bodies.specs.declared.walk.Stop.TheVariants.{NoJson, Memory}
use Rattle.json_bodies.proofs.SaidLemmas.{each_said_none, each_said_push, first_place, silent_here}

-- ---- a value that says nothing

pub cut_here : {B : Type 0} (says : Data → Option B) (P : Data → Type 0) (ds : List Data) (d : Data) (found : List B)
    → each_said says ds ≡ Some found → says d ≡ None → P d → IsCutAt says P (ds ++ d ∷ []) (length ds)
cut_here says P ds d found said silent more =
    record { before = ds; here = d; after = []; found = found; whole = refl; said = said; silent = silent; place = refl; more = more }

pub cut_before : {B : Type 0} (says : Data → Option B) (P : Data → Type 0) (ds : List Data) (d : Data) (at : ℕ)
    → IsCutAt says P ds at → IsCutAt says P (ds ++ d ∷ []) at
cut_before says P ds d at cut =
    record {
      before = cut.before;
      here = cut.here;
      after = cut.after ++ d ∷ [];
      found = cut.found;
      whole = ap (λ xs. xs ++ d ∷ []) cut.whole ∙ append_assoc cut.before (cut.here ∷ cut.after) (d ∷ []);
      said = cut.said;
      silent = cut.silent;
      place = cut.place;
      more = cut.more;
    }

pub cut_says_nothing : {B : Type 0} (says : Data → Option B) (P : Data → Type 0) (ds : List Data) (at : ℕ) → IsCutAt says P ds at
    → each_said says ds ≡ None
cut_says_nothing says P ds at cut = ap (each_said says) cut.whole ∙ each_said_none says cut.before cut.after cut.here cut.silent

pub cut_is_first : {B : Type 0} (says : Data → Option B) (P : Data → Type 0) (ds : List Data) (at : ℕ) → IsCutAt says P ds at
    → first_silent says ds ≡ Some at
cut_is_first says P ds at cut =
    let first = silent_here says cut.before cut.after cut.here cut.found cut.said cut.silent in
    let inside : length cut.before < length (cut.before ++ cut.here ∷ cut.after) = omega (arith, length-append cut.before (cut.here ∷ cut.after)) in
    rw (cut.whole, cut.place) (first_place (λ y. is_none (says y)) (cut.before ++ cut.here ∷ cut.after) (length cut.before) inside first)

-- ---- texts

pub texts_pushed : (says : Data → Option (List ℕ)) (ds : List Data) (d : Data) (texts more : List (List ℕ)) (text : List ℕ)
    → AreTexts says ds (Ok texts) → says d ≡ Some text → more ≡ texts ++ text ∷ [] → AreTexts says (ds ++ d ∷ []) (Ok more)
texts_pushed says ds d texts more text said here is = rw is (each_said_push says ds d text texts said here)

pub ok_texts : (says : Data → Option (List ℕ)) (ds : List Data) (texts : Result (List (List ℕ)) ℕ) → AreTexts says ds texts
    → each_said says ds ≡ result_ok texts
ok_texts says ds (Ok texts) are = are
ok_texts says ds (Err at) are = cut_says_nothing says (λ _. ⊤) ds at are

-- ---- what stops a walk

pub stop_so : (P Q : Type 0) (stop : Stop) → (P → Q) → IfNoJson P stop → IfNoJson Q stop
stop_so P Q NoJson so h = so h
stop_so P Q Memory so h = tt
