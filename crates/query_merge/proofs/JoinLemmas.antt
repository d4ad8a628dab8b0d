-- Two ascending lists of samples come to one.
use Rattle.std.proofs.Common.{◌≡◌, ℕ, ◌+◌, ◌<◌, List, [], ◌∷◌, ◌++◌, Bool, true, false, cond, arith, Less, Equal, Greater, length, refl, sym, ap, subst, inl, inr, ◌∙◌}
use Rattle.std.specs.List.{AllByRecursion}
use Rattle.std.specs.List.Sorted.{IsStrictlySortedBy}
use Rattle.std.specs.Map.{keys_of, values_of}
use Rattle.std.specs.Ordering.{ordering_reverse}
use Rattle.std.proofs.lemmas.List.Elements.{All-from_recursion, recursion_from_All}
use Rattle.std.proofs.lemmas.List.Sums.{fold-append, sum_by-cons}
use Rattle.profile_model.proofs.EntryLemmas.{all_map}
use Rattle.profile_model.proofs.SumLawLemmas.{same_stack, sums_of-only}
use Rattle.profile_model.specs.Limits.{total_bound}
use Rattle.profile_model.specs.StackOrder.{stack_eq, stacks_total}
use Rattle.profile_model.specs.Stacks.{stack_cmp}
use Rattle.profile_model.specs.SumLaw.{value_in}
use Rattle.profile_model.specs.Sums.{AreSums, Sample, sums_of, total_of, with_added}
use Rattle.query_merge.specs.Joining.{Goes, IsBelowFirst, IsNext}
use Rattle.query_merge.specs.Merging.{with_samples}
use Rattle.query_merge.proofs.SumLemmas.{value_in-append, value_in-sums}

abbrev Ascending : List Sample → Type 0
Ascending samples = IsStrictlySortedBy stack_cmp (keys_of samples)

abbrev Positive : List Sample → Type 0
Positive samples = AllByRecursion (λ v. 0 < v) (values_of samples)

-- ---- order

ascending-right : (xs ys : List Sample) → Ascending (xs ++ ys) → Ascending ys
unfolding IsStrictlySortedBy
ascending-right [] ys sorted = sorted
ascending-right (x ∷ xs) ys sorted = ascending-right xs ys sorted.1

all_between : (P : List (List ℕ) → Type 0) (es : List Sample) (x : Sample) (ys zs : List Sample) → AllByRecursion P (keys_of (es ++ x ∷ zs))
    → AllByRecursion P (keys_of (es ++ ys)) → AllByRecursion P (keys_of (es ++ x ∷ ys))
all_between P [] x ys zs with_x others = (with_x.0, others)
all_between P (e ∷ es) x ys zs with_x others = (with_x.0, all_between P es x ys zs with_x.1 others.1)

-- a sample that is above all before it and below all behind it stands between them
between : (xs : List Sample) (x : Sample) (ys zs : List Sample) → Ascending (xs ++ x ∷ zs) → Ascending (xs ++ ys)
    → AllByRecursion (λ y. stack_cmp x.0 y ≡ Less) (keys_of ys) → Ascending (xs ++ x ∷ ys)
unfolding IsStrictlySortedBy
between [] x ys zs s t below = (below, t)
between (e ∷ es) x ys zs s t below = (all_between (λ y. stack_cmp e.0 y ≡ Less) es x ys zs s.0 t.0, between es x ys zs s.1 t.1 below)

below_all : (stack : List (List ℕ)) (ys : List Sample) → Ascending ys → IsBelowFirst stack ys → AllByRecursion (λ y. stack_cmp stack y ≡ Less) (keys_of ys)
unfolding IsStrictlySortedBy
below_all stack [] sorted below = tt
below_all stack (y ∷ ys) sorted below =
    (below y ys refl, all_map (λ z more. stacks_total.trans stack y.0 z (below y ys refl) more) (keys_of ys) sorted.0)

-- only stacks count in an order
rest_of_pair : (xs : List Sample) (stack : List (List ℕ)) (value other : ℕ) (ys : List Sample) → Ascending (xs ++ (stack, value) ∷ ys)
    → Ascending (xs ++ (stack, other) ∷ ys)
rest_of_pair xs stack value other ys sorted = subst (IsStrictlySortedBy stack_cmp) (same xs) sorted
  where
    same : (xs : List Sample) → keys_of (xs ++ (stack, value) ∷ ys) ≡ keys_of (xs ++ (stack, other) ∷ ys)
    same [] = refl
    same (x ∷ xs) = ap (λ keys. x.0 ∷ keys) (same xs)

-- ---- sums of values

pub total_of-append : (xs ys : List Sample) → total_of (xs ++ ys) ≡ total_of xs + total_of ys
total_of-append [] ys = omega arith
total_of-append (x ∷ xs) ys =
    let rest = total_of-append xs ys in
    let all = sum_by-cons (λ (v : ℕ). v) x.1 (values_of (xs ++ ys)) in
    let first = sum_by-cons (λ (v : ℕ). v) x.1 (values_of xs) in omega arith

pub total_of-cons : (x : Sample) (xs : List Sample) → total_of (x ∷ xs) ≡ x.1 + total_of xs
total_of-cons x xs = sum_by-cons (λ (v : ℕ). v) x.1 (values_of xs)

value_in-cons : (x : Sample) (xs : List Sample) (q : List (List ℕ)) → value_in (x ∷ xs) q ≡ value_in (x ∷ []) q + value_in xs q
value_in-cons x xs q = value_in-append (x ∷ []) xs q

both_values : (here : Bool) (value other : ℕ) → cond here (value + other) 0 ≡ cond here value 0 + cond here other 0
both_values true value other = refl
both_values false value other = refl

value_in-pair : (stack : List (List ℕ)) (value other : ℕ) (q : List (List ℕ))
    → value_in ((stack, value + other) ∷ []) q ≡ value_in ((stack, value) ∷ []) q + value_in ((stack, other) ∷ []) q
value_in-pair stack value other q =
    let sum = sum_by-cons (λ (one : Sample). cond (stack_eq one.0 q) one.1 0) (stack, value + other) [] in
    let first = sum_by-cons (λ (one : Sample). cond (stack_eq one.0 q) one.1 0) (stack, value) [] in
    let second = sum_by-cons (λ (one : Sample). cond (stack_eq one.0 q) one.1 0) (stack, other) [] in
    let split = both_values (stack_eq stack q) value other in omega arith

positive-push : (xs : List Sample) (x : Sample) → Positive xs → 0 < x.1 → Positive (xs ++ x ∷ [])
positive-push [] x all some = (some, tt)
positive-push (y ∷ ys) x all some = (all.0, positive-push ys x all.1 some)

-- ---- the walk

-- of two lists, these samples were written and these are left
pub record Walked (from others samples first second : List Sample) : Type 0 where
  pub ascending : IsStrictlySortedBy stack_cmp (keys_of (samples ++ first))
  pub others_ascend : IsStrictlySortedBy stack_cmp (keys_of (samples ++ second))
  pub positive : AllByRecursion (λ v. 0 < v) (values_of samples)
  pub first_positive : AllByRecursion (λ v. 0 < v) (values_of first)
  pub second_positive : AllByRecursion (λ v. 0 < v) (values_of second)
  pub values : (stack : List (List ℕ)) → value_in samples stack + value_in first stack + value_in second stack ≡ value_in from stack + value_in others stack
  pub total : total_of samples + total_of first + total_of second ≡ total_of from + total_of others

pub walk-begins : (from others : List Sample) → AreSums from → AreSums others → Walked from others [] from others
walk-begins from others one other = record {
  ascending = one.ascending;
  others_ascend = other.ascending;
  positive = tt;
  first_positive = recursion_from_All (λ v. 0 < v) (values_of from) one.positive;
  second_positive = recursion_from_All (λ v. 0 < v) (values_of others) other.positive;
  values = λ stack. omega arith;
  total = omega arith;
}

turned : (from others samples first second : List Sample) → Walked from others samples first second → Walked from others samples second first
turned from others samples first second walk = record {
  ascending = walk.others_ascend;
  others_ascend = walk.ascending;
  positive = walk.positive;
  first_positive = walk.second_positive;
  second_positive = walk.first_positive;
  values = λ stack. let all = walk.values stack in omega arith;
  total = let all = walk.total in omega arith;
}

assoc : (xs : List Sample) (x : Sample) (ys : List Sample) → xs ++ x ∷ ys ≡ (xs ++ x ∷ []) ++ ys
assoc [] x ys = refl
assoc (y ∷ xs) x ys = ap (λ rest. y ∷ rest) (assoc xs x ys)

one_goes : (from others samples : List Sample) (x : Sample) (first second : List Sample) → IsBelowFirst x.0 second
    → Walked from others samples (x ∷ first) second → Walked from others (samples ++ x ∷ []) first second
one_goes from others samples x first second below walk = record {
  ascending = subst Ascending (assoc samples x first) walk.ascending;
  others_ascend = subst Ascending (assoc samples x second)
      (between samples x second first walk.ascending walk.others_ascend
      (below_all x.0 second (ascending-right samples second walk.others_ascend) below));
  positive = positive-push samples x walk.positive walk.first_positive.0;
  first_positive = walk.first_positive.1;
  second_positive = walk.second_positive;
  values = λ stack.
      let all = walk.values stack in let head = value_in-cons x first stack in let pushed = value_in-append samples (x ∷ []) stack in omega arith;
  total =
      let all = walk.total in let head = total_of-cons x first in let pushed = total_of-append samples (x ∷ []) in
      let one = total_of-cons x [] in omega arith;
}

both_go : (from others samples : List Sample) (stack : List (List ℕ)) (value other : ℕ) (first second : List Sample)
    → Walked from others samples ((stack, value) ∷ first) ((stack, other) ∷ second)
    → Walked from others (samples ++ (stack, value + other) ∷ []) first second
both_go from others samples stack value other first second walk = record {
  ascending = subst Ascending (assoc samples (stack, value + other) first) (rest_of_pair samples stack value (value + other) first walk.ascending);
  others_ascend = subst Ascending (assoc samples (stack, value + other) second) (rest_of_pair samples stack other (value + other) second walk.others_ascend);
  positive = positive-push samples (stack, value + other) walk.positive (let some = walk.first_positive.0 in omega arith);
  first_positive = walk.first_positive.1;
  second_positive = walk.second_positive.1;
  values = λ q.
      let all = walk.values q in let head = value_in-cons (stack, value) first q in let other_head = value_in-cons (stack, other) second q in
      let pushed = value_in-append samples ((stack, value + other) ∷ []) q in let split = value_in-pair stack value other q in omega arith;
  total =
      let all = walk.total in let head = total_of-cons (stack, value) first in let other_head = total_of-cons (stack, other) second in
      let pushed = total_of-append samples ((stack, value + other) ∷ []) in let one = total_of-cons (stack, value + other) [] in omega arith;
}

goes : (from others samples taken kept : List Sample) (sample : Sample) (taken_rest kept_rest : List Sample) → Goes taken kept sample taken_rest kept_rest
    → Walked from others samples taken kept → Walked from others (samples ++ sample ∷ []) taken_rest kept_rest
goes from others samples taken kept sample taken_rest kept_rest went walk =
    subst (λ rest. Walked from others (samples ++ sample ∷ []) taken_rest rest) (sym went.same)
    (one_goes from others samples sample taken_rest kept went.below (subst (λ list. Walked from others samples list kept) went.head walk))

pub walk-goes_on : (from others samples first second : List Sample) (sample : Sample) (first_rest second_rest : List Sample)
    → IsNext first second sample first_rest second_rest → Walked from others samples first second
    → Walked from others (samples ++ sample ∷ []) first_rest second_rest
walk-goes_on from others samples first second sample first_rest second_rest next walk = by next
  where
    by : IsNext first second sample first_rest second_rest → Walked from others (samples ++ sample ∷ []) first_rest second_rest
    by (inl went) = goes from others samples first second sample first_rest second_rest went walk
    by (inr (inl went)) =
        turned from others (samples ++ sample ∷ []) second_rest first_rest
        (goes from others samples second first sample second_rest first_rest went (turned from others samples first second walk))
    by (inr (inr together)) =
        subst (λ value. Walked from others (samples ++ (sample.0, value) ∷ []) first_rest second_rest) (sym together.sum)
        (both_go from others samples sample.0 together.value together.other first_rest second_rest
        (subst (λ list. Walked from others samples ((sample.0, together.value) ∷ first_rest) list) together.other_head
        (subst (λ list. Walked from others samples list second) together.head walk)))

-- ---- one step

head_of : Sample → List Sample → Sample
head_of sample [] = sample
head_of sample (first ∷ rest) = first

pub second-is_lower : (first second first_rest second_rest : List Sample) (one other sample : Sample) → first ≡ one ∷ first_rest → second ≡ other ∷ second_rest
    → stack_cmp one.0 other.0 ≡ Greater → sample ≡ other → IsNext first second sample first second_rest
unfolding head_of
second-is_lower first second first_rest second_rest one other sample at other_at above is = inr (inl (record {
  head = other_at ∙ ap (λ head. head ∷ second_rest) (sym is);
  same = refl;
  below = λ head rest heads.
      let same : one ≡ head = ap (head_of one) (sym at ∙ heads) in
      (λ i. stack_cmp (is i).0 (sym same i).0) ∙ stacks_total.antisymm other.0 one.0 ∙ ap ordering_reverse above;
}))

pub both-are_one : (first second first_rest second_rest : List Sample) (one other : Sample) (stack : List (List ℕ)) → first ≡ one ∷ first_rest
    → second ≡ other ∷ second_rest → stack_cmp one.0 other.0 ≡ Equal → stack ≡ one.0 → IsNext first second (stack, one.1 + other.1) first_rest second_rest
both-are_one first second first_rest second_rest one other stack at other_at tied is = inr (inr (record {
  value = one.1;
  other = other.1;
  head = at ∙ ap (λ stack. (stack, one.1) ∷ first_rest) (sym is);
  other_head = other_at ∙ ap (λ stack. (stack, other.1) ∷ second_rest) (sym (is ∙ same_stack one.0 other.0 tied));
  sum = refl;
}))

-- a step leaves less
pub next-leaves_less : (first second : List Sample) (sample : Sample) (first_rest second_rest : List Sample) → IsNext first second sample first_rest second_rest
    → length first_rest + length second_rest < length first + length second
next-leaves_less first second sample first_rest second_rest next = by next
  where
    by : IsNext first second sample first_rest second_rest → length first_rest + length second_rest < length first + length second
    by (inl went) = let taken = ap length went.head in let kept = ap length went.same in omega arith
    by (inr (inl went)) = let taken = ap length went.head in let kept = ap length went.same in omega arith
    by (inr (inr together)) = let taken = ap length together.head in let other = ap length together.other_head in omega arith

-- ---- what the walk comes to

pub positive_sums : (samples : List Sample) → AreSums samples → Positive samples
positive_sums samples sums = recursion_from_All (λ v. 0 < v) (values_of samples) sums.positive

-- sums are those of their samples
pub sums_of-sums : (samples : List Sample) → AreSums samples → samples ≡ sums_of samples
sums_of-sums samples sums =
    sums_of-only samples samples (record { ascending = sums.ascending; positive = sums.positive; exact = λ q. sym (value_in-sums samples q sums.ascending) })

-- sums of a list with the samples of another are those of both lists
pub with_samples-both : (samples more : List Sample) → with_samples (sums_of samples) more ≡ sums_of (samples ++ more)
with_samples-both samples more = sym (fold-append (λ sums (sample : Sample). with_added sums sample.0 sample.1) [] samples more)

pub walk-ends : (from others samples : List Sample) → AreSums from → total_of from + total_of others < total_bound → Walked from others samples [] []
    → AreSums samples × (samples ≡ with_samples from others) × (total_of samples ≡ total_of from + total_of others)
walk-ends from others samples sums room walk =
    let ascends : Ascending samples = subst Ascending (none samples) walk.ascending in
    let positive = All-from_recursion (λ v. 0 < v) (values_of samples) walk.positive in
    let total : total_of samples ≡ total_of from + total_of others = (let all = walk.total in omega arith) in (
      record { ascending = ascends; positive = positive; bounded = omega (arith, room, total) },
      sums_of-only (from ++ others) samples
          (record {
            ascending = ascends;
            positive = positive;
            exact = λ q. sym (value_in-sums samples q ascends) ∙ same q;
          })
          ∙ sym (with_samples-both from others) ∙ ap (λ list. with_samples list others) (sym (sums_of-sums from sums)),
      total,
    )
  where
    none : (xs : List Sample) → xs ++ [] ≡ xs
    none [] = refl
    none (x ∷ xs) = ap (λ rest. x ∷ rest) (none xs)

    same : (q : List (List ℕ)) → value_in samples q ≡ value_in (from ++ others) q
    same q = let all = walk.values q in let split = value_in-append from others q in omega arith
