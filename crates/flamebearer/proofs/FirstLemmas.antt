-- The first places of what a stack begins with, after those of lower stacks.
use Rattle.std.proofs.Common.{◌≡◌, ℕ, zero, suc, ◌+◌, ◌-◌, ◌<◌, ◌≤◌, ◌||◌, List, [], ◌∷◌, ◌++◌, length, map, take, true, false, cond, arith, refl, sym, ap, ◌∙◌, append_assoc, append-nil}
use Rattle.std.specs.Prelude.{fold, if◌then◌else◌}
use Rattle.std.specs.List.{list_any, range_with_len, flat_map}
use Rattle.std.specs.Map.{keys_of}
use Rattle.std.proofs.lemmas.List.{map-append, length-take-le}
use Rattle.std.proofs.lemmas.List.Sums.{fold-append}
use Rattle.std.proofs.lemmas.List.Folds.{list_any-append}
use Rattle.std.proofs.lemmas.List.Concat.{flat_map-cons}
use Rattle.std.proofs.lemmas.Grind.{flat_map-append}
use Rattle.profile_model.specs.Sums.{Sample}
use Rattle.profile_model.specs.StackOrder.{stack_eq}
use Rattle.flamebearer.specs.Trees.{firsts, prefixes}
use Rattle.flamebearer.specs.Pushes.{fronts}
use Rattle.flamebearer.proofs.PrefixLemmas.{other_length}

abbrev Found : Type 0
Found = List (List (List ℕ))

abbrev add : Found → List (List ℕ) → Found
add found x = if list_any (stack_eq x) found then found else found ++ x ∷ []

-- all that comes of these samples
abbrev pub found_of : List Sample → Found
found_of samples = firsts stack_eq (flat_map prefixes (keys_of samples))

-- what has been met isn't added
all_met : (stack : List (List ℕ)) (from count : ℕ) (found : Found)
    → ((n : ℕ) → from ≤ n → n < from + count → list_any (stack_eq (take (n + 1) stack)) found ≡ true) → fold add found (fronts stack from count) ≡ found
all_met stack from zero found met = refl
all_met stack from (suc count) found met =
    ap (λ b. fold add (cond b found (found ++ take (from + 1) stack ∷ [])) (fronts stack (from + 1) count)) (met from (omega arith) (omega arith))
    ∙ all_met stack (from + 1) count found (λ n far near. met n (omega arith) (omega arith))

-- what hasn't is
none_met : (stack : List (List ℕ)) (from count : ℕ) (found : Found) → from + count ≤ length stack
    → ((n : ℕ) → from ≤ n → n < from + count → list_any (stack_eq (take (n + 1) stack)) found ≡ false)
    → fold add found (fronts stack from count) ≡ found ++ fronts stack from count
none_met stack from zero found within new = sym (append-nil found)
none_met stack from (suc count) found within new =
    let x = take (from + 1) stack in
    ap (λ b. fold add (cond b found (found ++ x ∷ [])) (fronts stack (from + 1) count)) (new from (omega arith) (omega arith))
    ∙ none_met stack (from + 1) count (found ++ x ∷ []) (omega arith) (λ n far near.
    let longer = length-take-le (n + 1) stack (omega arith) in
    let shorter = length-take-le (from + 1) stack (omega arith) in
    let other : stack_eq (take (n + 1) stack) x ≡ false = other_length (take (n + 1) stack) x (λ same. absurd (omega arith)) in
    list_any-append (stack_eq (take (n + 1) stack)) found (x ∷ [])
    ∙ (λ i. new n (omega arith) (omega arith) i || (other i || false)))
    ∙ append_assoc found (x ∷ []) (fronts stack (from + 1) count)

range-split : (from count more : ℕ) → range_with_len from (count + more) ≡ range_with_len from count ++ range_with_len (from + count) more
range-split from zero more = λ i. range_with_len (zeros from i) (zero_more more i)
  where
    zeros : (n : ℕ) → n ≡ n + 0
    zeros n = omega arith

    zero_more : (n : ℕ) → 0 + n ≡ n
    zero_more n = omega arith
range-split from (suc count) more =
    ap (range_with_len from) (moved count more) ∙ ap (λ rest. from ∷ rest) (range-split (from + 1) count more ∙ ap (λ a. range_with_len (from + 1) count ++ range_with_len a more) (along from count))
  where
    moved : (count more : ℕ) → suc count + more ≡ suc (count + more)
    moved count more = omega arith

    along : (from count : ℕ) → from + 1 + count ≡ from + suc count
    along from count = omega arith

flat-push : (samples : List Sample) (stack : List (List ℕ)) (value : ℕ)
    → flat_map prefixes (keys_of (samples ++ (stack, value) ∷ [])) ≡ flat_map prefixes (keys_of samples) ++ prefixes stack
flat-push samples stack value =
    ap (flat_map prefixes) (map-append (λ (e : Sample). e.0) samples ((stack, value) ∷ []))
    ∙ flat_map-append prefixes (keys_of samples) (stack ∷ [])
    ∙ ap (λ t. flat_map prefixes (keys_of samples) ++ t) (flat_map-cons prefixes stack [] ∙ append-nil (prefixes stack))

-- of a stack more, those of its fronts come that are longer than what it shares with the stacks before
pub found_of-push : (samples : List Sample) (stack : List (List ℕ)) (value c : ℕ) → c ≤ length stack
    → ((n : ℕ) → n < c → list_any (stack_eq (take (n + 1) stack)) (found_of samples) ≡ true)
    → ((n : ℕ) → c ≤ n → n < length stack → list_any (stack_eq (take (n + 1) stack)) (found_of samples) ≡ false)
    → found_of (samples ++ (stack, value) ∷ []) ≡ found_of samples ++ fronts stack c (length stack - c)
unfolding firsts
found_of-push samples stack value c within met new =
    let found = found_of samples in
    let rest = length stack - c in
    let split : prefixes stack ≡ fronts stack 0 c ++ fronts stack c rest =
    ap (λ n. fronts stack 0 n) (parts c (length stack) within) ∙ ap (map (λ n. take (n + 1) stack)) (range-split 0 c rest)
    ∙ map-append (λ n. take (n + 1) stack) (range_with_len 0 c) (range_with_len (0 + c) rest)
    ∙ ap (λ a. fronts stack 0 c ++ fronts stack a rest) (none c) in
    ap (fold add []) (flat-push samples stack value)
    ∙ fold-append add [] (flat_map prefixes (keys_of samples)) (prefixes stack)
    ∙ ap (fold add found) split
    ∙ fold-append add found (fronts stack 0 c) (fronts stack c rest)
    ∙ ap (λ f. fold add f (fronts stack c rest)) (all_met stack 0 c found (λ n far near. met n (omega arith)))
    ∙ none_met stack c rest found (omega arith) (λ n far near. new n far (omega arith))
  where
    parts : (c n : ℕ) → c ≤ n → n ≡ c + (n - c)
    parts c n within = omega arith

    none : (n : ℕ) → 0 + n ≡ n
    none n = omega arith
