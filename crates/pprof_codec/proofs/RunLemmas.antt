-- Samples that have one stack, added together.
use Rattle.std.proofs.Common.{◌≡◌, ℕ, zero, suc, ◌+◌, ◌-◌, ◌^◌, ◌<◌, ◌≤◌, List, [], ◌∷◌, ◌++◌, length, get_or, set, take, drop, Bool, true, false, cond, refl, sym, ap, ◌∙◌, subst, arith}
use Rattle.std.specs.Prelude.{map, sum_by}
use Rattle.std.specs.List.{All, range_with_len}
use Rattle.std.specs.List.Sorted.{IsPermutation}
use Rattle.std.proofs.lemmas.List.{append_assoc, get_or-append-add, get_or-take, length-append, length-drop, length-take-le, map-append, set_at, take_more}
use Rattle.std.proofs.lemmas.List.Elements.{All-drop, All-head, All-tail, All-take}
use Rattle.std.proofs.lemmas.List.FromFn.{get_or-map-range_with_len, get_or-range_with_len, length-map-range_with_len, length-range_with_len, map-range_with_len_more}
use Rattle.std.proofs.lemmas.List.Sorted.{All-permutation}
use Rattle.std.proofs.lemmas.List.Sums.{sum_by-append, sum_by-cons, sum_by-set, sum_by_push}
use Rattle.std.proofs.Math.Seq.{drop-cons}
use Rattle.profile_model.specs.StackOrder.{stack_eq}
use Rattle.profile_model.specs.Sums as sums
use Rattle.profile_model.specs.Sums.{sums_of, total_of, with_added}
use Rattle.profile_model.specs.SumLaw.{value_in}
use Rattle.profile_model.proofs.SumLawLemmas.{sums_of-any_order}
use Rattle.pprof_message.specs.Pprof.{Pprof}
use Rattle.pprof_codec.specs.Profiles.{samples_of, stacks_weight}
use Rattle.pprof_codec.specs.Tables.{first_stack, numbers_of, run_added, sample_at, stack_at, sums_over, sums_weight, value_over}
use Rattle.pprof_codec.proofs.OrderLemmas.{stack-at, take-part, total-order, total-over, value-part}
use Rattle.pprof_codec.proofs.WeightLemmas.{fold-parts, weight-grows, weighs-with_added}

-- ---- one sample type

module _ (pprof : Pprof) (number : ℕ) where
  abbrev own : ℕ → ℕ
  own at = (sample_at pprof number at).1

  module _ (stack : List (List ℕ)) (q : List (List ℕ)) where
    value-more : (other : List (List ℕ)) (value rest : ℕ) → other ≡ stack → cond (stack_eq other q) value 0 + cond (stack_eq stack q) rest 0 ≡ cond (stack_eq stack q) (value + rest) 0
    value-more other value rest same = ap (λ s. cond (stack_eq s q) value 0 + cond (stack_eq stack q) rest 0) same ∙ by (stack_eq stack q)
      where
        by : (b : Bool) → cond b value 0 + cond b rest 0 ≡ cond b (value + rest) 0
        by true = refl
        by false = refl

    value-none : (n : ℕ) → n ≡ cond (stack_eq stack q) n n
    value-none n = by (stack_eq stack q)
      where
        by : (b : Bool) → n ≡ cond b n n
        by true = refl
        by false = refl

    value-run : (run : List ℕ) → All (λ at. (sample_at pprof number at).0 ≡ stack) run
        → value_in (map (sample_at pprof number) run) q ≡ cond (stack_eq stack q) (value_over pprof number run) 0
    value-run [] alike = value-none 0
    value-run (at ∷ run) alike =
        sum_by-cons (λ (one : sums.Sample). cond (stack_eq one.0 q) one.1 0) (sample_at pprof number at) (map (sample_at pprof number) run)
        ∙ ap (λ n. cond (stack_eq (sample_at pprof number at).0 q) (own at) 0 + n) (value-run run (All-tail (λ at. (sample_at pprof number at).0 ≡ stack) at run alike))
        ∙ value-more (sample_at pprof number at).0 (own at) (value_over pprof number run) (All-head (λ at. (sample_at pprof number at).0 ≡ stack) at run alike)
        ∙ ap (λ n. cond (stack_eq stack q) n 0) (sym (sum_by-cons own at run))

  sums-run : (done run : List ℕ) (stack : List (List ℕ)) → All (λ at. (sample_at pprof number at).0 ≡ stack) run
      → with_added (sums_of (map (sample_at pprof number) done)) stack (value_over pprof number run) ≡ sums_of (map (sample_at pprof number) (done ++ run))
  sums-run done run stack alike =
      let g = sample_at pprof number in
      let one : sums.Sample = (stack, value_over pprof number run) in
      sym (fold-parts [] (map g done) (one ∷ []))
      ∙ sums_of-any_order (map g done ++ one ∷ []) (map g done ++ map g run) (λ q.
      let f : sums.Sample → ℕ = λ sample. cond (stack_eq sample.0 q) sample.1 0 in
      sum_by_push f (map g done) one ∙ ap (λ n. sum_by f (map g done) + n) (sym (value-run stack q run alike)) ∙ sym (sum_by-append f (map g done) (map g run)))
      ∙ ap sums_of (sym (map-append g done run))

-- ---- all sample types

map-range-same : {X : Type 0} (f g : ℕ → X) (n : ℕ) → ((i : ℕ) → i < n → f i ≡ g i) → map f (range_with_len 0 n) ≡ map g (range_with_len 0 n)
map-range-same f g zero same = refl
map-range-same f g (suc n) same =
    let e : n + 1 ≡ suc n = omega arith in
    subst (λ m. map f (range_with_len 0 m) ≡ map g (range_with_len 0 m)) e (map-range_with_len_more f 0 n n (omega arith)
    ∙ (λ k. map-range-same f g n (λ i less. same i (omega arith)) k ++ same n (omega arith) k ∷ [])
    ∙ sym (map-range_with_len_more g 0 n n (omega arith)))

pub length-over : (pprof : Pprof) (order : List ℕ) → length (sums_over pprof order) ≡ length pprof.sample_types
unfolding sums_over
length-over pprof order = length-map-range_with_len (λ number. sums_of (map (sample_at pprof number) order)) 0 (length pprof.sample_types)

pub sums-at : (pprof : Pprof) (order : List ℕ) (number : ℕ) → number < length pprof.sample_types
    → get_or (sums_over pprof order) number [] ≡ sums_of (map (sample_at pprof number) order)
unfolding sums_over
sums-at pprof order number within =
    get_or-map-range_with_len (λ n. sums_of (map (sample_at pprof n) order)) 0 (length pprof.sample_types) number number [] within (omega arith)

pub run-over : (pprof : Pprof) (done run : List ℕ) (stack : List (List ℕ)) → ((number : ℕ) → All (λ at. (sample_at pprof number at).0 ≡ stack) run)
    → run_added pprof run stack (sums_over pprof done) ≡ sums_over pprof (done ++ run)
unfolding run_added sums_over
run-over pprof done run stack alike =
    let types = length pprof.sample_types in
    let before = sums_over pprof done in
    ap (λ n. map (λ number. with_added (get_or before number []) stack (value_over pprof number run)) (range_with_len 0 n)) (length-over pprof done)
    ∙ map-range-same (λ number. with_added (get_or before number []) stack (value_over pprof number run)) (λ number. sums_of (map (sample_at pprof number) (done ++ run))) types
    (λ number within. ap (λ known. with_added known stack (value_over pprof number run)) (sums-at pprof done number within) ∙ sums-run pprof number done run stack (alike number))

-- no samples, one sample type more
pub none-more : (pprof : Pprof) (number : ℕ) (before after : List (List sums.Sample)) (new : List sums.Sample) → number < length pprof.sample_types
    → after ≡ before ++ new ∷ [] → new ≡ [] → before ≡ take number (sums_over pprof []) → after ≡ take (number + 1) (sums_over pprof [])
none-more pprof number before after new within is none known =
    let size = length-over pprof [] in
    is ∙ (λ k. known k ++ (none ∙ sym (sums-at pprof [] number within)) k ∷ []) ∙ sym (take_more (sums_over pprof []) number [] (omega arith))

weight-none : (pprof : Pprof) (types : List ℕ) → sums_weight (map (λ number. sums_of (map (sample_at pprof number) [])) types) ≡ 0
weight-none pprof [] = refl
weight-none pprof (t ∷ ts) =
    let rest = weight-none pprof ts in
    let all = sum_by-cons stacks_weight [] (map (λ number. sums_of (map (sample_at pprof number) [])) ts) in omega arith

pub weight-over-none : (pprof : Pprof) → sums_weight (sums_over pprof []) ≡ 0
unfolding sums_over
weight-over-none pprof = weight-none pprof (range_with_len 0 (length pprof.sample_types))

-- ---- samples that follow one another

module _ (pprof : Pprof) (order : List ℕ) (all : IsPermutation (numbers_of pprof) order) (from n : ℕ) where
  known : All (λ at. at < length pprof.samples) (numbers_of pprof)
  known k d less =
      let size = length-range_with_len 0 (length pprof.samples) in
      let is = get_or-range_with_len 0 (length pprof.samples) k d (omega arith) in omega arith

  pub known-part : All (λ at. at < length pprof.samples) (take n (drop from order))
  known-part =
      All-take (λ at. at < length pprof.samples) n (drop from order)
      (All-drop (λ at. at < length pprof.samples) from order (All-permutation (λ at. at < length pprof.samples) (numbers_of pprof) order all known))

  pub total-part : (number : ℕ) → number < length pprof.sample_types
      → total_of (get_or (sums_over pprof (take from order)) number []) + value_over pprof number (take n (drop from order)) ≤ total_of (samples_of pprof number)
  total-part number within =
      let before = ap total_of (sums-at pprof (take from order) number within) ∙ total-over pprof number (take from order) in
      let most = value-part pprof number order from n in
      let whole = total-order pprof number order all in omega arith

  pub known-rest : All (λ at. at < length pprof.samples) (drop from order)
  known-rest = All-drop (λ at. at < length pprof.samples) from order (All-permutation (λ at. at < length pprof.samples) (numbers_of pprof) order all known)

  pub next-part : 0 < n → 0 < length (drop from order) → All (λ at. stack_at pprof at ≡ stack_at pprof (get_or (drop from order) 0 0)) (take n (drop from order))
      → run_added pprof (take n (drop from order)) (first_stack pprof (take n (drop from order))) (sums_over pprof (take from order)) ≡ sums_over pprof (take (from + n) order)
  next-part some more same =
      let part = take n (drop from order) in
      let first : get_or part 0 0 ≡ get_or (drop from order) 0 0 = get_or-take n (drop from order) 0 0 some in
      run-over pprof (take from order) part (first_stack pprof part) (λ number k d less.
      stack-at pprof number (get_or part k d) (known-part k d less)
      ∙ same k d less ∙ ap (stack_at pprof) (sym first))
      ∙ ap (sums_over pprof) (take-part order from n)

-- ---- one sample type after another

pub length-run : (pprof : Pprof) (run : List ℕ) (stack : List (List ℕ)) (before : List (List sums.Sample)) → length (run_added pprof run stack before) ≡ length before
unfolding run_added
length-run pprof run stack before =
    length-map-range_with_len (λ number. with_added (get_or before number []) stack (value_over pprof number run)) 0 (length before)

pub run-at : (pprof : Pprof) (run : List ℕ) (stack : List (List ℕ)) (before : List (List sums.Sample)) (number : ℕ) → number < length before
    → get_or (run_added pprof run stack before) number [] ≡ with_added (get_or before number []) stack (value_over pprof number run)
unfolding run_added
run-at pprof run stack before number within =
    get_or-map-range_with_len (λ n. with_added (get_or before n []) stack (value_over pprof n run)) 0 (length before) number number [] within (omega arith)

module _ {X : Type 0} (before after : List X) (same : length after ≡ length before) (n : ℕ) (d : X) (within : n < length before) where
  pub mixed-at : get_or (take n after ++ drop n before) n d ≡ get_or before n d
  mixed-at =
      let size = length-take-le n after (omega arith) in
      let e : length (take n after) + 0 ≡ n = omega arith in
      subst (λ k. get_or (take n after ++ drop n before) k d ≡ get_or (drop n before) 0 d) e (get_or-append-add (take n after) (drop n before) 0 d)
      ∙ ap (λ (ys : List X). get_or ys 0 d) (drop-cons before n d within)

  pub mixed-set : (y : X) → y ≡ get_or after n d → set (take n after ++ drop n before) n y ≡ take (n + 1) after ++ drop (n + 1) before
  mixed-set y is =
      let e : suc n ≡ n + 1 = omega arith in
      ap (λ ys. set (take n after ++ ys) n y) (drop-cons before n d within)
      ∙ set_at (take n after) (get_or before n d) (drop (suc n) before) y n (length-take-le n after (omega arith))
      ∙ sym (append_assoc (take n after) (y ∷ []) (drop (suc n) before))
      ∙ (λ k. (take n after ++ is k ∷ []) ++ drop (e k) before)
      ∙ ap (λ ys. ys ++ drop (n + 1) before) (sym (take_more after n d (omega arith)))

mixed-least : {X : Type 0} (f : X → ℕ) (d : X) (before after : List X) (n : ℕ) → length after ≡ length before
    → ((i : ℕ) → i < length before → f (get_or before i d) ≤ f (get_or after i d)) → sum_by f (take n after ++ drop n before) ≤ sum_by f after
mixed-least f d [] [] n same grows = by n
  where
    by : (n : ℕ) → sum_by f (take n [] ++ drop n []) ≤ sum_by f []
    by zero = omega arith
    by (suc n) = omega arith
mixed-least f d [] (y ∷ ys) n same grows = absurd (omega arith)
mixed-least f d (x ∷ xs) [] n same grows = absurd (omega arith)
mixed-least f d (x ∷ xs) (y ∷ ys) zero same grows =
    let rest = mixed-least f d xs ys zero (omega arith) (λ i less. grows (suc i) (omega arith)) in
    let one = grows 0 (omega arith) in
    let all = sum_by-cons f x xs in
    let more = sum_by-cons f y ys in omega arith
mixed-least f d (x ∷ xs) (y ∷ ys) (suc n) same grows =
    let rest = mixed-least f d xs ys n (omega arith) (λ i less. grows (suc i) (omega arith)) in
    let all = sum_by-cons f y (take n ys ++ drop n xs) in
    let more = sum_by-cons f y ys in omega arith

-- where some sample types have the run's values already, the sums weigh no more than in the end
pub weight-mixed : (pprof : Pprof) (run : List ℕ) (stack : List (List ℕ)) (before : List (List sums.Sample)) (n : ℕ)
    → sums_weight (take n (run_added pprof run stack before) ++ drop n before) ≤ sums_weight (run_added pprof run stack before)
weight-mixed pprof run stack before n =
    mixed-least stacks_weight [] before (run_added pprof run stack before) n (length-run pprof run stack before) (λ number within.
    subst (λ known. stacks_weight (get_or before number []) ≤ stacks_weight known) (sym (run-at pprof run stack before number within))
    (weight-grows (get_or before number []) (with_added (get_or before number []) stack (value_over pprof number run)) stack
    (weighs-with_added (get_or before number []) stack (value_over pprof number run))))

get_or-same : {X : Type 0} (xs : List X) (n : ℕ) (d e : X) → n < length xs → get_or xs n d ≡ get_or xs n e
get_or-same [] n d e within = absurd (omega arith)
get_or-same (x ∷ xs) zero d e within = refl
get_or-same (x ∷ xs) (suc n) d e within = get_or-same xs n d e (omega arith)

pub mixed-all : {X : Type 0} (before after : List X) (n : ℕ) → length after ≡ length before → n ≡ length before → take n after ++ drop n before ≡ after
mixed-all [] [] n same all = let e : n ≡ 0 = all in rw e refl
mixed-all [] (y ∷ ys) n same all = absurd (omega arith)
mixed-all (x ∷ xs) [] n same all = absurd (omega arith)
mixed-all (x ∷ xs) (y ∷ ys) zero same all = absurd (omega arith)
mixed-all (x ∷ xs) (y ∷ ys) (suc n) same all = ap (λ zs. y ∷ zs) (mixed-all xs ys n (omega arith) (omega arith))

pub run-empty : (pprof : Pprof) (run : List ℕ) (stack : List (List ℕ)) (before : List (List sums.Sample)) → length before ≡ 0 → before ≡ run_added pprof run stack before
unfolding run_added
run-empty pprof run stack [] none = refl
run-empty pprof run stack (x ∷ xs) none = absurd (omega arith)

-- one sample type more
module _ (pprof : Pprof) (run : List ℕ) (stack : List (List ℕ)) (before : List (List sums.Sample)) (n : ℕ) (within : n < length before)
    (now : List (List sums.Sample)) (mixed : now ≡ take n (run_added pprof run stack before) ++ drop n before) (d : List sums.Sample)
    (value : ℕ) (own_value : value ≡ value_over pprof n run) where
  abbrev after : List (List sums.Sample)
  after = run_added pprof run stack before

  abbrev next : List sums.Sample
  next = with_added (get_or now n d) stack value

  known-is : get_or now n d ≡ get_or before n []
  known-is = ap (λ all. get_or all n d) mixed ∙ mixed-at before after (length-run pprof run stack before) n d within ∙ get_or-same before n d [] within

  next-is : next ≡ get_or after n []
  next-is = (λ k. with_added (known-is k) stack (own_value k)) ∙ sym (run-at pprof run stack before n within)

  pub step-now : set now n next ≡ take (n + 1) after ++ drop (n + 1) before
  step-now = ap (λ all. set all n next) mixed ∙ mixed-set before after (length-run pprof run stack before) n [] within next next-is

  now-length : length now ≡ length before
  now-length =
      let first = length-take-le n after (let size = length-run pprof run stack before in omega arith) in
      let rest : length (drop n before) ≡ length before - n = length-drop n before in
      let both = length-append (take n after) (drop n before) in
      let own_length = ap (length {A = List sums.Sample}) mixed in omega arith

  pub step-weight : sums_weight (set now n next) + stacks_weight (get_or now n d) ≡ sums_weight now + stacks_weight next
  step-weight = sum_by-set stacks_weight now n next d (let size = now-length in omega arith)

  pub step-least : sums_weight (set now n next) ≤ sums_weight after
  step-least = subst (λ all. sums_weight all ≤ sums_weight after) (sym step-now) (weight-mixed pprof run stack before (n + 1))

  pub step-total : (total_of (get_or before n []) + value_over pprof n run < 2 ^ 63) → total_of (get_or now n d) + value < 2 ^ 63
  step-total below = let same = ap total_of known-is in omega arith
