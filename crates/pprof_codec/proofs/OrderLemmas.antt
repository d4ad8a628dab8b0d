-- Samples taken by their numbers, in any order.
use Rattle.std.proofs.Common.{◌≡◌, Some, ℕ, zero, suc, ◌+◌, ◌<◌, ◌≤◌, List, [], ◌∷◌, ◌++◌, length, get_or, take, drop, Bool, true, false, cond, refl, sym, ap, ◌∙◌, subst, arith}
use Rattle.std.specs.Prelude.{◌==◌, map, slice_get, sum_by}
use Rattle.std.specs.List.{range_with_len}
use Rattle.std.specs.List.Sorted.{IsPermutation}
use Rattle.std.specs.Map.{values_of}
use Rattle.std.specs.BTreeMap.{insert_entry}
use Rattle.std.proofs.lemmas.Bool.{eqb-true}
use Rattle.std.proofs.lemmas.List.{drop-take, get_or-map, length-map, take-append-drop, take-map, take-take, take_all, take_more}
use Rattle.std.proofs.lemmas.List.FromFn.{map-range_with_len_more}
use Rattle.std.proofs.lemmas.List.Sorted.{IsPermutation-map, sum_by-IsPermutation}
use Rattle.std.proofs.lemmas.List.Sums.{fold_more, sum_by-append, sum_by-cons, sum_by-take-le, sum_by_more}
use Rattle.profile_model.specs.Stacks.{stack_cmp}
use Rattle.profile_model.specs.StackOrder.{stack_eq}
use Rattle.profile_model.specs.Sums as sums
use Rattle.profile_model.specs.Sums.{sums_of, total_of, with_added}
use Rattle.profile_model.proofs.SumLemmas.{total-insert}
use Rattle.profile_model.proofs.SumLawLemmas.{sums_of-any_order, sums_of-are}
use Rattle.pprof_message.specs.Pprof.{Sample, Pprof}
use Rattle.pprof_codec.specs.Frames.{root_first, stack_of}
use Rattle.pprof_codec.specs.Profiles.{samples_of, stacks_weight, value_of}
use Rattle.pprof_codec.specs.Tables.{all_sums, ids_at, numbers_of, sample_at, sums_over, sums_weight, value_over, first_stack}
use Rattle.pprof_codec.proofs.FaultLemmas.{get-some}
use Rattle.pprof_codec.proofs.WeightLemmas.{add_sample, weight-first}

-- ---- lists

module _ {X : Type 0} (xs : List X) (d : X) where
  first-picked : (n : ℕ) → n ≤ length xs → map (λ i. get_or xs i d) (range_with_len 0 n) ≡ take n xs
  first-picked zero few = refl
  first-picked (suc n) few =
      let e : n + 1 ≡ suc n = omega arith in
      subst (λ m. map (λ i. get_or xs i d) (range_with_len 0 m) ≡ take m xs) e
      (map-range_with_len_more (λ i. get_or xs i d) 0 n n (omega arith) ∙ ap (λ ys. ys ++ get_or xs n d ∷ []) (first-picked n (omega arith))
      ∙ sym (take_more xs n d (omega arith)))

  pub all-picked : map (λ i. get_or xs i d) (range_with_len 0 (length xs)) ≡ xs
  all-picked = first-picked (length xs) (omega arith) ∙ take_all (length xs) xs (omega arith)

pub sum-map : {A X : Type 0} (h : X → ℕ) (g : A → X) (xs : List A) → sum_by h (map g xs) ≡ sum_by (λ x. h (g x)) xs
sum-map h g [] = refl
sum-map h g (x ∷ xs) = sum_by-cons h (g x) (map g xs) ∙ ap (λ n. h (g x) + n) (sum-map h g xs) ∙ sym (sum_by-cons (λ y. h (g y)) x xs)

-- a part follows the parts before it
pub take-part : {X : Type 0} (xs : List X) (from n : ℕ) → take from xs ++ take n (drop from xs) ≡ take (from + n) xs
take-part xs from n =
    (λ k. sym (take-take from (from + n) xs (omega arith)) k ++ sym (drop-take from n xs) k) ∙ take-append-drop from (take (from + n) xs)

-- ---- totals

total-with_added : (known : List sums.Sample) (stack : List (List ℕ)) (value : ℕ) → (ascending : total_of (insert_entry stack_cmp known stack (sums.value_of known stack + value)) ≡ total_of known + value)
    → total_of (with_added known stack value) ≡ total_of known + value
total-with_added known stack value grown = by (value == 0) refl
  where
    by : (none : Bool) → (value == 0) ≡ none → total_of (cond none known (insert_entry stack_cmp known stack (sums.value_of known stack + value))) ≡ total_of known + value
    by true is = let zero = eqb-true value 0 is in omega arith
    by false is = grown

abbrev own_value : sums.Sample → ℕ
own_value sample = sample.1

total-first : (samples : List sums.Sample) (n : ℕ) → n ≤ length samples → total_of (sums_of (take n samples)) ≡ sum_by own_value (take n samples)
total-first samples zero few = refl
total-first samples (suc n) few =
    let e : suc n ≡ n + 1 = omega arith in
    let d : sums.Sample = ([], 0) in
    let one : sums.Sample = get_or samples n d in
    let before = sums_of (take n samples) in
    let step : sums_of (take (n + 1) samples) ≡ with_added before one.0 one.1 = fold_more add_sample [] samples n d (omega arith) in
    let grown = total-with_added before one.0 one.1 (total-insert before one.0 one.1 (sums_of-are (take n samples)).ascending) in
    rw e (ap total_of step ∙ grown ∙ ap (λ t. t + one.1) (total-first samples n (omega arith)) ∙ sym (sum_by_more own_value samples n d (omega arith)))

-- sums come to what their samples do
pub total-sums : (samples : List sums.Sample) → total_of (sums_of samples) ≡ sum_by own_value samples
total-sums samples =
    let all = take_all (length samples) samples (omega arith) in
    subst (λ xs. total_of (sums_of xs) ≡ sum_by own_value xs) all (total-first samples (length samples) (omega arith))

total-own : (samples : List sums.Sample) → total_of samples ≡ sum_by own_value samples
total-own [] = refl
total-own (s ∷ ss) = sum_by-cons (λ v. v) s.1 (values_of ss) ∙ ap (λ n. s.1 + n) (total-own ss) ∙ sym (sum_by-cons own_value s ss)

-- ---- all samples of a message

module _ (pprof : Pprof) (number : ℕ) where
  samples-length : length (samples_of pprof number) ≡ length pprof.samples
  unfolding samples_of
  samples-length = length-map pprof.samples (λ sample. (stack_of pprof sample, value_of number sample))

  samples-picked : map (sample_at pprof number) (numbers_of pprof) ≡ samples_of pprof number
  samples-picked =
      ap (λ n. map (sample_at pprof number) (range_with_len 0 n)) (sym samples-length) ∙ all-picked (samples_of pprof number) ([], 0)

  module _ (order : List ℕ) (all : IsPermutation (numbers_of pprof) order) where
    sum-picked : (f : sums.Sample → ℕ) → sum_by f (map (sample_at pprof number) order) ≡ sum_by f (samples_of pprof number)
    sum-picked f =
        sum_by-IsPermutation f (map (sample_at pprof number) (numbers_of pprof)) (map (sample_at pprof number) order)
        (IsPermutation-map (sample_at pprof number) (numbers_of pprof) order all)
        ∙ ap (sum_by f) samples-picked

    pub sums-picked : sums_of (map (sample_at pprof number) order) ≡ sums_of (samples_of pprof number)
    sums-picked = sums_of-any_order (map (sample_at pprof number) order) (samples_of pprof number)
        (λ stack. sum-picked (λ sample. cond (stack_eq sample.0 stack) sample.1 0))

    -- what the samples up to a place come to
    pub total-order : value_over pprof number order ≡ total_of (samples_of pprof number)
    total-order = sym (sum-map own_value (sample_at pprof number) order) ∙ sum-picked own_value ∙ sym (total-own (samples_of pprof number))

  pub total-over : (done : List ℕ) → total_of (sums_of (map (sample_at pprof number) done)) ≡ value_over pprof number done
  total-over done = total-sums (map (sample_at pprof number) done) ∙ sum-map own_value (sample_at pprof number) done

  pub value-part : (order : List ℕ) (from n : ℕ)
      → value_over pprof number (take from order) + value_over pprof number (take n (drop from order)) ≤ value_over pprof number order
  value-part order from n =
      let value : ℕ → ℕ = λ at. (sample_at pprof number at).1 in
      let both = sum_by-append value (take from order) (take n (drop from order)) in
      let joined = ap (sum_by value) (take-part order from n) in
      let most = sum_by-take-le value order (from + n) in omega arith

  pub weight-over : (order : List ℕ) (n : ℕ)
      → stacks_weight (sums_of (map (sample_at pprof number) (take n order))) ≤ stacks_weight (sums_of (map (sample_at pprof number) order))
  weight-over order n =
      subst (λ xs. stacks_weight (sums_of xs) ≤ stacks_weight (sums_of (map (sample_at pprof number) order)))
      (take-map (sample_at pprof number) n order) (weight-first (map (sample_at pprof number) order) n)

-- ---- the sample types

pub sums-all : (pprof : Pprof) (order : List ℕ) → IsPermutation (numbers_of pprof) order → sums_over pprof order ≡ all_sums pprof
unfolding sums_over all_sums
sums-all pprof order all = λ k. map (λ number. sums-picked pprof number order all k) (range_with_len 0 (length pprof.sample_types))

sum-grows : (f g : ℕ → ℕ) → ((n : ℕ) → f n ≤ g n) → (ns : List ℕ) → sum_by f ns ≤ sum_by g ns
sum-grows f g grows [] = omega arith
sum-grows f g grows (n ∷ ns) =
    let one = grows n in
    let rest = sum-grows f g grows ns in
    let all_f = sum_by-cons f n ns in
    let all_g = sum_by-cons g n ns in omega arith

-- the first samples weigh no more than all
pub weight-part : (pprof : Pprof) (order : List ℕ) (n : ℕ) → sums_weight (sums_over pprof (take n order)) ≤ sums_weight (sums_over pprof order)
unfolding sums_over
weight-part pprof order n =
    let types = range_with_len 0 (length pprof.sample_types) in
    let first = sum-map stacks_weight (λ number. sums_of (map (sample_at pprof number) (take n order))) types in
    let whole = sum-map stacks_weight (λ number. sums_of (map (sample_at pprof number) order)) types in
    let grown = sum-grows (λ number. stacks_weight (sums_of (map (sample_at pprof number) (take n order)))) (λ number. stacks_weight (sums_of (map (sample_at pprof number) order)))
    (λ number. weight-over pprof number order n) types in
    omega arith

-- ---- stacks by their location ids

no_sample : Sample
no_sample = record { location_ids = []; values = []; labels = [] }

pub ids-at : (pprof : Pprof) (at : ℕ) (sample : Sample) → at < length pprof.samples → get_or pprof.samples at sample ≡ sample → ids_at pprof at ≡ sample.location_ids
ids-at pprof at sample within is =
    get_or-map (λ (one : Sample). one.location_ids) pprof.samples at sample [] within ∙ ap (λ (one : Sample). one.location_ids) is

pub stack-at : (pprof : Pprof) (number at : ℕ) → at < length pprof.samples → (sample_at pprof number at).0 ≡ root_first pprof (ids_at pprof at)
unfolding samples_of stack_of
stack-at pprof number at within =
    ap (λ (one : sums.Sample). one.0) (get_or-map (λ sample. (stack_of pprof sample, value_of number sample)) pprof.samples at no_sample ([], 0) within)
    ∙ ap (root_first pprof) (sym (get_or-map (λ (one : Sample). one.location_ids) pprof.samples at no_sample [] within))

pub value-at : (pprof : Pprof) (number at : ℕ) (sample : Sample) → at < length pprof.samples → get_or pprof.samples at sample ≡ sample
    → (sample_at pprof number at).1 ≡ value_of number sample
unfolding samples_of
value-at pprof number at sample within is =
    ap (λ (one : sums.Sample). one.1) (get_or-map (λ sample. (stack_of pprof sample, value_of number sample)) pprof.samples at sample ([], 0) within ∙ ap (λ s. (stack_of pprof s, value_of number s)) is)

-- one value more of a run
pub value-more : (pprof : Pprof) (number : ℕ) (run : List ℕ) (i d : ℕ) (sample : Sample) → i < length run → slice_get pprof.samples (get_or run i d) ≡ Some sample
    → value_over pprof number (take (i + 1) run) ≡ value_over pprof number (take i run) + value_of number sample
value-more pprof number run i d sample within is =
    let read = get-some pprof.samples (get_or run i d) sample is in
    sum_by_more (λ at. (sample_at pprof number at).1) run i d within
    ∙ ap (λ v. value_over pprof number (take i run) + v) (value-at pprof number (get_or run i d) sample read.0 read.1)

pub value-first : (pprof : Pprof) (number : ℕ) (run : List ℕ) (n : ℕ) → value_over pprof number (take n run) ≤ value_over pprof number run
value-first pprof number run n = sum_by-take-le (λ at. (sample_at pprof number at).1) run n

pub first-stack : (pprof : Pprof) (run : List ℕ) (at : ℕ) (sample : Sample) → at ≡ get_or run 0 0 → slice_get pprof.samples at ≡ Some sample
    → stack_of pprof sample ≡ first_stack pprof run
unfolding stack_of
first-stack pprof run at sample first is =
    let read = get-some pprof.samples at sample is in
    ap (root_first pprof) (sym (ids-at pprof at sample read.0 read.1) ∙ ap (ids_at pprof) first)

pub range-more : (n : ℕ) → range_with_len 0 n ++ n ∷ [] ≡ range_with_len 0 (n + 1)
range-more n =
    (λ k. sym (map-id (range_with_len 0 n)) k ++ n ∷ []) ∙ sym (map-range_with_len_more (λ i. i) 0 n n (omega arith)) ∙ map-id (range_with_len 0 (n + 1))
  where
    map-id : (xs : List ℕ) → map (λ i. i) xs ≡ xs
    map-id [] = refl
    map-id (x ∷ xs) = ap (λ ys. x ∷ ys) (map-id xs)
