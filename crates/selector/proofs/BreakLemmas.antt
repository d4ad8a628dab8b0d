-- Where a text breaks off a form, by where its rest breaks off what may follow.
use Rattle.std.proofs.Common.{◌≡◌, ℕ, zero, suc, ◌+◌, ◌-◌, ◌<◌, ◌≤◌, List, [], ◌∷◌, ◌++◌, length, take, refl, sym, ap, ◌∙◌, subst, arith, append_assoc, append-nil}
use Rattle.std.proofs.lemmas.List.{length-append}
use Rattle.std.proofs.Math.Seq.{take-append_seam, take-append-add}
use Rattle.profile_model.specs.Breaks.{Begins, BreaksAt}
use Rattle.selector.specs.Rests.{IsBrokenOff}

-- the two texts begin with the same byte, or both are empty
abbrev pub BeginAlike : List ℕ → List ℕ → Type 0
BeginAlike [] [] = Unit {0}
BeginAlike [] (c ∷ t) = ⊥
BeginAlike (b ∷ s) [] = ⊥
BeginAlike (b ∷ s) (c ∷ t) = b ≡ c

pub alike_same : (text : List ℕ) → BeginAlike text text
alike_same [] = tt
alike_same (b ∷ text) = refl

alike_front : (read more tail : List ℕ) (b : ℕ) → BeginAlike (read ++ b ∷ more) ((read ++ b ∷ []) ++ tail)
alike_front [] more tail b = refl
alike_front (c ∷ read) more tail b = refl

regroup : (a b c d : List ℕ) → ((a ++ b) ++ c) ++ d ≡ a ++ ((b ++ c) ++ d)
regroup a b c d = simp append_assoc

module _ (Form Next : List ℕ → Type 0) (front rest : List ℕ) where
  abbrev pub Into : Type 0
  Into = (t : List ℕ) → BeginAlike rest t → Next t → Form (front ++ t)

  abbrev pub Back : Type 0
  Back = (t : List ℕ) → BeginAlike rest t → Form (front ++ t) → Next t

  begins_after : (read stuck : List ℕ) → rest ≡ read ++ stuck → Begins Form front → Into → Begins Next read → Begins Form (front ++ read)
  begins_after [] stuck split starts into some = subst (Begins Form) (sym (append-nil front)) starts
  begins_after (b ∷ read) stuck split starts into some = (
    some.0,
    subst Form (sym (append_assoc front (b ∷ read) some.0))
        (into (b ∷ (read ++ some.0)) (subst (λ r. BeginAlike r (b ∷ (read ++ some.0))) (sym split) refl) some.1),
  )

  -- What may follow the front is read on: where the rest breaks off it, the whole breaks off the form.
  pub broken_after : (left : ℕ) → Begins Form front → Into → Back → IsBrokenOff Next rest left → IsBrokenOff Form (front ++ rest) left
  broken_after left starts into back w = record {
    read = front ++ w.read;
    stuck = w.stuck;
    split = ap (λ t. front ++ t) w.split ∙ sym (append_assoc front w.read w.stuck);
    count = w.count;
    begins = begins_after w.read w.stuck w.split starts into w.begins;
    stops = λ b more is some.
        w.stops b more is (
          some.0,
          back ((w.read ++ b ∷ []) ++ some.0)
              (subst (λ r. BeginAlike r ((w.read ++ b ∷ []) ++ some.0)) (sym (w.split ∙ ap (λ t. w.read ++ t) is)) (alike_front w.read more some.0 b))
              (subst Form (regroup front w.read (b ∷ []) some.0) some.1),
        );
    outside = λ form. w.outside (back rest (alike_same rest) form);
  }

-- no text of the form begins as this one
pub broken_here : (Form : List ℕ → Type 0) (text : List ℕ) → Begins Form [] → ((t : List ℕ) → BeginAlike text t → ¬ (Form t)) → IsBrokenOff Form text (length text)
broken_here Form text starts none = record {
  read = [];
  stuck = text;
  split = refl;
  count = refl;
  begins = starts;
  stops = λ b more is some. none (b ∷ some.0) (subst (λ r. BeginAlike r (b ∷ some.0)) (sym is) refl) some.1;
  outside = λ form. none text (alike_same text) form;
}

-- the front is read, and no text of the form goes on from it as this one
pub broken_past : (Form : List ℕ → Type 0) (front rest : List ℕ) → Begins Form front → ((t : List ℕ) → BeginAlike rest t → ¬ (Form (front ++ t)))
    → IsBrokenOff Form (front ++ rest) (length rest)
broken_past Form front rest starts none =
    broken_after Form (λ t. Form (front ++ t)) front rest (length rest) starts (λ t alike form. form) (λ t alike form. form)
    (broken_here (λ t. Form (front ++ t)) rest starts none)

-- ---- as a place in the text

beyond : (Form : List ℕ → Type 0) (read : List ℕ) (b : ℕ) (tail : List ℕ) → ¬ (Begins Form (read ++ b ∷ [])) → ¬ (Begins Form (read ++ b ∷ tail))
beyond Form read b tail none some =
    none (tail ++ some.0, subst Form (simp append_assoc) some.1)

longest : (Form : List ℕ → Type 0) (read stuck : List ℕ) → ((b : ℕ) (more : List ℕ) → stuck ≡ b ∷ more → ¬ (Begins Form (read ++ b ∷ [])))
    → (k : ℕ) → 0 < k → k ≤ length stuck → ¬ (Begins Form (take (length read + k) (read ++ stuck)))
longest Form read [] stops k some within found = omega arith
longest Form read (b ∷ stuck) stops zero some within found = omega arith
longest Form read (b ∷ stuck) stops (suc k) some within found =
    beyond Form read b (take k stuck) (stops b stuck refl) (subst (Begins Form) (take-append-add read (b ∷ stuck) (suc k)) found)

at_seam : (Form : List ℕ → Type 0) (read stuck : List ℕ) → Begins Form read
    → ((b : ℕ) (more : List ℕ) → stuck ≡ b ∷ more → ¬ (Begins Form (read ++ b ∷ []))) → BreaksAt Form (read ++ stuck) (length read)
at_seam Form read stuck begins stops = let size = length-append read stuck in record {
  within = omega arith;
  begins = subst (Begins Form) (sym (take-append_seam read stuck)) begins;
  longest = λ more past short found.
      longest Form read stuck stops (more - length read) (omega arith) (omega arith)
      (subst (λ n. Begins Form (take n (read ++ stuck))) (let e : more ≡ length read + (more - length read) = omega arith in e) found);
}

-- the place is what was read
pub breaks_at : (Form : List ℕ → Type 0) (text : List ℕ) (left : ℕ) → IsBrokenOff Form text left → BreaksAt Form text (length text - left)
breaks_at Form text left w =
    let size : length text ≡ length w.read + length w.stuck = ap length w.split ∙ length-append w.read w.stuck in
    let count = w.count in
    let place : length w.read ≡ length text - left = omega arith in
    subst (λ at. BreaksAt Form text at) place (subst (λ t. BreaksAt Form t (length w.read)) (sym w.split) (at_seam Form w.read w.stuck w.begins w.stops))
