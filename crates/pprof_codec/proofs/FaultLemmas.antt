-- Lists of faults, and the first of each.
use Rattle.std.proofs.Common.{◌≡◌, ℕ, zero, suc, ◌+◌, ◌<◌, ◌≤◌, List, [], ◌∷◌, ◌++◌, length, get_or, take, drop, Bool, true, false, cond, Option, Some, None, refl, sym, ap, ◌∙◌, arith, add-one, append_assoc}
use Rattle.std.specs.Prelude.{nat_lt, not, map, option_map, position, slice_get}
use Rattle.std.specs.List.{enumerate_from, flat_map, position_or_len}
use Rattle.std.proofs.lemmas.Bool.{lt-ltb}
use Rattle.std.proofs.lemmas.Bool.Decides.{nat_tests}
use Rattle.std.proofs.lemmas.List.{take_all, take_more, get_or-map, length-map, append-nil}
use Rattle.pprof_codec.specs.declared.fault.PprofFault.{PprofFault}
use Rattle.pprof_codec.specs.Checks.{fault_if, faults_of_each, first_of}

-- ---- the first fault

pub first-none : (xs : List PprofFault) → first_of xs ≡ None → xs ≡ []
first-none [] h = refl
first-none (x ∷ xs) h = cc

pub first-after : (xs ys : List PprofFault) → xs ≡ [] → first_of (xs ++ ys) ≡ first_of ys
first-after xs ys none = ap (λ zs. first_of (zs ++ ys)) none

pub first-here : (xs ys : List PprofFault) (fault : PprofFault) → first_of xs ≡ Some fault → first_of (xs ++ ys) ≡ Some fault
first-here [] ys fault h = cc
first-here (x ∷ xs) ys fault h = h

pub first-found : (found : Bool) (fault : PprofFault) (xs : List PprofFault) → found ≡ true → first_of (fault_if found fault ++ xs) ≡ Some fault
first-found found fault xs is = ap (λ b. first_of (fault_if b fault ++ xs)) is

pub first-passed : (found : Bool) (fault : PprofFault) (xs : List PprofFault) → found ≡ false → first_of (fault_if found fault ++ xs) ≡ first_of xs
first-passed found fault xs is = ap (λ b. first_of (fault_if b fault ++ xs)) is

pub only-found : (found : Bool) (fault : PprofFault) → found ≡ true → first_of (fault_if found fault) ≡ Some fault
only-found found fault is = ap (λ b. first_of (fault_if b fault)) is

pub only-passed : (found : Bool) (fault : PprofFault) → found ≡ false → first_of (fault_if found fault) ≡ None
only-passed found fault is = ap (λ b. first_of (fault_if b fault)) is

-- ---- the faults of each member

module _ {X : Type 0} (faults : ℕ → X → List PprofFault) where
  abbrev each_from : ℕ → List X → List PprofFault
  each_from n xs = flat_map (λ one. faults one.0 one.1) (enumerate_from n xs)

  each_from-split : (n : ℕ) (xs : List X) (i : ℕ) (d : X) → i < length xs
      → each_from n xs ≡ each_from n (take i xs) ++ (faults (n + i) (get_or xs i d) ++ each_from (n + i + 1) (drop (suc i) xs))
  each_from-split n [] i d short = absurd (omega arith)
  each_from-split n (x ∷ xs) zero d short = let e : n + 0 ≡ n = omega arith in rw e refl
  each_from-split n (x ∷ xs) (suc i) d short =
      let e : n + suc i ≡ n + 1 + i = omega arith in
      rw e (ap (λ zs. faults n x ++ zs) (each_from-split (n + 1) xs i d (omega arith)) ∙ sym (append_assoc (faults n x) _ _))

  each_from-more : (n : ℕ) (xs : List X) (i : ℕ) (d : X) → i < length xs
      → each_from n (take (suc i) xs) ≡ each_from n (take i xs) ++ faults (n + i) (get_or xs i d)
  each_from-more n [] i d short = absurd (omega arith)
  each_from-more n (x ∷ xs) zero d short = let e : n + 0 ≡ n = omega arith in rw e (append-nil (faults n x))
  each_from-more n (x ∷ xs) (suc i) d short =
      let e : n + suc i ≡ n + 1 + i = omega arith in
      rw e (ap (λ zs. faults n x ++ zs) (each_from-more (n + 1) xs i d (omega arith)) ∙ sym (append_assoc (faults n x) _ _))

  -- one member more has no fault
  pub each-kept : (xs : List X) (i : ℕ) (d : X) → i < length xs → faults_of_each faults (take i xs) ≡ []
      → faults i (get_or xs i d) ≡ [] → faults_of_each faults (take (i + 1) xs) ≡ []
  each-kept xs i d short before here =
      let e : 0 + i ≡ i = omega arith in
      ap (λ k. faults_of_each faults (take k xs)) (add-one i) ∙ each_from-more 0 xs i d short
      ∙ ap (λ zs. zs ++ faults (0 + i) (get_or xs i d)) before ∙ ap (λ k. faults k (get_or xs i d)) e ∙ here

  -- a member has a fault, and none before it
  pub each-first : (xs : List X) (i : ℕ) (d : X) (fault : PprofFault) → i < length xs → faults_of_each faults (take i xs) ≡ []
      → first_of (faults i (get_or xs i d)) ≡ Some fault → first_of (faults_of_each faults xs) ≡ Some fault
  each-first xs i d fault short before here =
      let e : 0 + i ≡ i = omega arith in
      ap first_of (each_from-split 0 xs i d short) ∙ first-after (faults_of_each faults (take i xs)) _ before
      ∙ first-here (faults (0 + i) (get_or xs i d)) _ fault (ap (λ k. first_of (faults k (get_or xs i d))) e ∙ here)

  -- all members were judged
  pub each-all : (xs : List X) (i : ℕ) → length xs ≤ i → faults_of_each faults (take i xs) ≡ [] → faults_of_each faults xs ≡ []
  each-all xs i all before = ap (faults_of_each faults) (sym (take_all i xs all)) ∙ before

-- ---- the same of what members show

module _ {A X : Type 0} (view : A → X) where
  shown : (xs : List A) (i : ℕ) (d : A) → i < length xs → view (get_or xs i d) ≡ get_or (map view xs) i (view d)
  shown xs i d short = sym (get_or-map view xs i d (view d) short)

  shorter : (xs : List A) (i : ℕ) → i < length xs → i < length (map view xs)
  shorter xs i short = let size = length-map xs view in omega arith

  pub shown-push : (ys : List X) (y : X) (xs : List A) (i : ℕ) (d : A) → i < length xs → ys ≡ take i (map view xs) → y ≡ view (get_or xs i d)
      → ys ++ y ∷ [] ≡ take (i + 1) (map view xs)
  shown-push ys y xs i d short before is =
      (λ k. before k ++ (is ∙ shown xs i d short) k ∷ []) ∙ sym (take_more (map view xs) i (view d) (shorter xs i short))

  pub shown-kept : (faults : ℕ → X → List PprofFault) (xs : List A) (i : ℕ) (d : A) → i < length xs → faults_of_each faults (take i (map view xs)) ≡ []
      → faults i (view (get_or xs i d)) ≡ [] → faults_of_each faults (take (i + 1) (map view xs)) ≡ []
  shown-kept faults xs i d short before here =
      each-kept faults (map view xs) i (view d) (shorter xs i short) before (ap (faults i) (sym (shown xs i d short)) ∙ here)

  pub shown-first : (faults : ℕ → X → List PprofFault) (xs : List A) (i : ℕ) (d : A) (fault : PprofFault) → i < length xs
      → faults_of_each faults (take i (map view xs)) ≡ [] → first_of (faults i (view (get_or xs i d))) ≡ Some fault
      → first_of (faults_of_each faults (map view xs)) ≡ Some fault
  shown-first faults xs i d fault short before here =
      each-first faults (map view xs) i (view d) fault (shorter xs i short) before (ap (λ x. first_of (faults i x)) (sym (shown xs i d short)) ∙ here)

  pub shown-all : (xs : List A) (i : ℕ) → length xs ≤ i → take i (map view xs) ≡ map view xs
  shown-all xs i all = take_all i (map view xs) (let size = length-map xs view in omega arith)

-- ---- the same of a member that was read at its place

pub get-some : {X : Type 0} (xs : List X) (n : ℕ) (x : X) → slice_get xs n ≡ Some x → (n < length xs) × (get_or xs n x ≡ x)
get-some [] n x is = cc
get-some (y ∷ ys) zero x is = (omega arith, (let same : y ≡ x = cc in same))
get-some (y ∷ ys) (suc n) x is = let rest = get-some ys n x is in (omega arith, rest.1)

module _ {X : Type 0} (faults : ℕ → X → List PprofFault) where
  pub read-kept : (xs : List X) (n : ℕ) (x : X) → slice_get xs n ≡ Some x → faults_of_each faults (take n xs) ≡ []
      → faults n x ≡ [] → faults_of_each faults (take (n + 1) xs) ≡ []
  read-kept xs n x is before here =
      let at = get-some xs n x is in each-kept faults xs n x at.0 before (ap (faults n) at.1 ∙ here)

  pub read-first : (xs : List X) (n : ℕ) (x : X) (fault : PprofFault) → slice_get xs n ≡ Some x → faults_of_each faults (take n xs) ≡ []
      → first_of (faults n x) ≡ Some fault → first_of (faults_of_each faults xs) ≡ Some fault
  read-first xs n x fault is before here =
      let at = get-some xs n x is in each-first faults xs n x fault at.0 before (ap (λ y. first_of (faults n y)) at.1 ∙ here)

pub read-push : {A X : Type 0} (view : A → X) (ys : List X) (y : X) (xs : List A) (n : ℕ) (x : A) → slice_get xs n ≡ Some x → ys ≡ take n (map view xs)
    → y ≡ view x → ys ++ y ∷ [] ≡ take (n + 1) (map view xs)
read-push view ys y xs n x is before same =
    let at = get-some xs n x is in shown-push view ys y xs n x at.0 before (same ∙ ap view (sym at.1))

-- ---- a test of each member

module _ {X : Type 0} (p : X → Bool) (F : ℕ → PprofFault) where
  abbrev tested : ℕ → List X → List PprofFault
  tested n xs = flat_map (λ one. fault_if (p one.1) (F one.0)) (enumerate_from n xs)

  abbrev found_at : ℕ → ℕ → Bool → ℕ → Option PprofFault
  found_at n k within m = option_map (λ j. F (n + j)) (cond within (Some k) None)

  tested-next : (n l m : ℕ) (b : Bool) → found_at (n + 1) l b m ≡ found_at n (1 + l) b m
  tested-next n l m true = let e : n + 1 + l ≡ n + (1 + l) = omega arith in ap (λ k. Some (F k)) e
  tested-next n l m false = refl

  tested-step : (n l m : ℕ) (b : Bool) (rest : List PprofFault) → first_of rest ≡ found_at (n + 1) l (nat_lt l m) m
      → first_of (fault_if b (F n) ++ rest) ≡ found_at n (cond (not b) (1 + l) 0) (nat_lt (cond (not b) (1 + l) 0) (suc m)) m
  tested-step n l m true rest h =
      let within : nat_lt 0 (suc m) ≡ true = lt-ltb 0 (suc m) (omega arith) in
      let e : n + 0 ≡ n = omega arith in rw (within, e) refl
  tested-step n l m false rest h =
      let same : nat_lt (1 + l) (suc m) ≡ nat_lt l m = grind (arith, nat_tests) in
      rw same (h ∙ tested-next n l m (nat_lt l m))

  first-tested : (n : ℕ) (xs : List X) → first_of (tested n xs) ≡ option_map (λ k. F (n + k)) (position p xs)
  first-tested n [] = refl
  first-tested n (x ∷ xs) = tested-step n (position_or_len p xs) (length xs) (p x) (tested (n + 1) xs) (first-tested (n + 1) xs)

  pub first-position : (xs : List X) → first_of (faults_of_each (λ n x. fault_if (p x) (F n)) xs) ≡ option_map F (position p xs)
  first-position xs = first-tested 0 xs ∙ same (position p xs)
    where
      same : (found : Option ℕ) → option_map (λ k. F (0 + k)) found ≡ option_map F found
      same None = refl
      same (Some k) = let e : 0 + k ≡ k = omega arith in ap (λ j. Some (F j)) e
