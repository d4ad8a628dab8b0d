-- Labels without some of them, and with a service.
use Rattle.std.proofs.Common.{◌≡◌, ℕ, ◌≤◌, Bool, true, false, not, List, [], ◌∷◌, length, Option, Some, None, cond, ◌||◌, refl, sym, ap, ◌∙◌, arith, nat_eq, codes, Bor}
use Rattle.std.specs.Option.{is_some, option_map}
use Rattle.std.specs.List.{filter}
use Rattle.std.specs.Cmp.Lexicographic.{pointwise}
use Rattle.profile_model.specs.LabelSets.{Label, has_label, label_of, with_label, without_label}
use Rattle.json_push.specs.Pushed.{with_service}

filter-shorter : {X : Type 0} (p : X → Bool) (xs : List X) → length (filter p xs) ≤ length xs
filter-shorter p [] = omega arith
filter-shorter p (x ∷ xs) = by (p x) (filter-shorter p xs)
  where
    by : (b : Bool) → length (filter p xs) ≤ length xs → length (cond b (x ∷ filter p xs) (filter p xs)) ≤ length (x ∷ xs)
    by true shorter = omega arith
    by false shorter = omega arith

pub without-shorter : (labels : List Label) (name other : List ℕ) → length (without_label (without_label labels name) other) ≤ length labels
without-shorter labels name other =
    let first = filter-shorter (λ label. not (pointwise nat_eq name label.0)) labels in
    let second = filter-shorter (λ label. not (pointwise nat_eq other label.0)) (without_label labels name) in omega arith

label_there : (labels : List Label) (name : List ℕ) → is_some (label_of labels name) ≡ has_label labels name
label_there [] name = refl
label_there (label ∷ labels) name = by (pointwise nat_eq name label.0) (label_there labels name)
  where
    by : (b : Bool) → is_some (label_of labels name) ≡ has_label labels name
        → is_some (cond b (Some label.1) (label_of labels name)) ≡ (b || has_label labels name)
    by true same = refl
    by false same = same

seen-there : (found : Option (Bor (List ℕ))) → is_some found ≡ is_some (option_map (λ value. value.now) found)
seen-there None = refl
seen-there (Some value) = refl

pub label_found : (found : Option (Bor (List ℕ))) (labels : List Label) (name : List ℕ) (there : Bool)
    → option_map (λ value. value.now) found ≡ label_of labels name → is_some found ≡ there → has_label labels name ≡ there
label_found found labels name there is seen = sym (label_there labels name) ∙ sym (ap is_some is) ∙ sym (seen-there found) ∙ seen

-- ---- the service

pub service_named : (labels : List Label) → has_label labels (codes "service_name") ≡ true → labels ≡ with_service labels
service_named labels is = sym (ap (λ named. cond named labels (with_label labels (codes "service_name") (codes "unspecified"))) is)

pub service_put : (labels after : List Label) (name value : List ℕ) → name ≡ codes "service_name" → value ≡ codes "unspecified"
    → has_label labels (codes "service_name") ≡ false → after ≡ with_label labels name value → after ≡ with_service labels
service_put labels after name value named valued is put =
    put ∙ (λ k. with_label labels (named k) (valued k))
    ∙ sym (ap (λ known. cond known labels (with_label labels (codes "service_name") (codes "unspecified"))) is)
