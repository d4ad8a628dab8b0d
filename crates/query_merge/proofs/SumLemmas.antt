-- Sums of two lists of samples, brought together.
use Rattle.std.proofs.Common.{◌≡◌, ℕ, zero, suc, ◌+◌, ◌<◌, ◌≤◌, List, [], ◌∷◌, ◌++◌, Bool, true, false, cond, arith, Option, Some, Ordering, Less, Equal, Greater, refl, sym, ap, ◌∙◌, true≢false, length, take, get_or}
use Rattle.std.specs.Prelude.{flat_map, if◌then◌else◌, unwrap_or}
use Rattle.std.specs.BTreeMap.{is_at}
use Rattle.std.specs.List.Sorted.{IsStrictlySortedBy}
use Rattle.std.specs.Map.{keys_of, lookup}
use Rattle.std.specs.Ordering.{is_eq}
use Rattle.std.proofs.lemmas.Grind.{flat_map-append}
use Rattle.std.proofs.lemmas.List.Elements.{filter-append}
use Rattle.std.proofs.lemmas.List.Sums.{fold-append, sum_by-append, sum_by-cons}
use Rattle.profile_model.proofs.EntryLemmas.{all_map, lookup-below}
use Rattle.profile_model.proofs.SumLawLemmas.{sums_of-any_order, sums_of-are}
use Rattle.profile_model.specs.Pushes.{profiles_total}
use Rattle.profile_model.specs.StackOrder.{stack_eq, stacks_equiv, stacks_ties, stacks_total}
use Rattle.profile_model.specs.Stacks.{stack_cmp}
use Rattle.profile_model.specs.SumLaw.{value_in}
use Rattle.profile_model.specs.Sums.{Sample, sums_of, total_of, value_of, with_added}
use Rattle.profile_model.specs.declared.profile.Profile.{Profile}
use Rattle.segment_file.specs.declared.part.Row.{Row}
use Rattle.selector.specs.declared.query.Query.{Query}
use Rattle.query_merge.specs.Asked.{asked_of, is_asked, stacks_of}
use Rattle.query_merge.specs.Merging.{asked_samples, with_samples}
use Rattle.query_merge.specs.Rows.{profiles_of}

pub eq_is : (o : Ordering) → is_eq o ≡ true → o ≡ Equal
eq_is Less is = absurd (true≢false (sym is))
eq_is Equal is = refl
eq_is Greater is = absurd (true≢false (sym is))

first_counts : (here : Bool) (value rest : ℕ) (found : Option ℕ) → (here ≡ true → rest ≡ 0) → rest ≡ unwrap_or found 0
    → cond here value 0 + rest ≡ unwrap_or (cond here (Some value) found) 0
first_counts true value rest found none same = let nothing = none refl in omega arith
first_counts false value rest found none same = omega arith

-- where stacks are distinct, a stack's value is all that its samples come to
pub value_in-sums : (sums : List Sample) (q : List (List ℕ)) → IsStrictlySortedBy stack_cmp (keys_of sums) → value_in sums q ≡ value_of sums q
unfolding IsStrictlySortedBy
value_in-sums [] q sorted = refl
value_in-sums (x ∷ xs) q sorted =
    let turn : stack_eq x.0 q ≡ is_eq (stack_cmp q x.0) = stacks_equiv.symm x.0 q ∙ stacks_ties q x.0 in
    let later = value_in-sums xs q sorted.1 in
    let none = λ (here : is_eq (stack_cmp q x.0) ≡ true). later
    ∙ ap (λ (found : Option ℕ). unwrap_or found 0) (lookup-below stacks_total xs q
    (all_map (λ z above. stacks_total.congr q x.0 z (eq_is (stack_cmp q x.0) here) ∙ above) (keys_of xs) sorted.0)) in
    sum_by-cons (λ (one : Sample). if stack_eq one.0 q then one.1 else 0) x xs
    ∙ ap (λ (b : Bool). cond b x.1 0 + value_in xs q) turn
    ∙ first_counts (is_eq (stack_cmp q x.0)) x.1 (value_in xs q) (lookup (is_at (stack_cmp q)) xs) none later

pub value_in-append : (xs ys : List Sample) (q : List (List ℕ)) → value_in (xs ++ ys) q ≡ value_in xs q + value_in ys q
value_in-append xs ys q = sum_by-append (λ (one : Sample). if stack_eq one.0 q then one.1 else 0) xs ys

pub value_in-sums_of : (samples : List Sample) (q : List (List ℕ)) → value_in (sums_of samples) q ≡ value_in samples q
value_in-sums_of samples q = value_in-sums (sums_of samples) q (sums_of-are samples).ascending ∙ (sums_of-are samples).exact q

-- the sums of some samples, added to those of others
together : (first second : List Sample) → with_samples (sums_of first) (sums_of second) ≡ sums_of (first ++ second)
together first second =
    sym (fold-append (λ (sums : List Sample) (sample : Sample). with_added sums sample.0 sample.1) [] first (sums_of second))
    ∙ sums_of-any_order (first ++ sums_of second) (first ++ second)
    (λ q. value_in-append first (sums_of second) q ∙ ap (λ n. value_in first q + n) (value_in-sums_of second q) ∙ sym (value_in-append first second q))

other_order : (first second : List Sample) → sums_of (second ++ first) ≡ sums_of (first ++ second)
other_order first second = sums_of-any_order (second ++ first) (first ++ second)
    (λ q. let one = value_in-append first second q in let other = value_in-append second first q in omega arith)

pub joined_right : (first second held more new : List Sample) → held ≡ sums_of first → more ≡ sums_of second → new ≡ with_samples held more
    → new ≡ sums_of (first ++ second)
joined_right first second held more new one other is = is ∙ (λ i. with_samples (one i) (other i)) ∙ together first second

pub joined_left : (first second held more new : List Sample) → held ≡ sums_of first → more ≡ sums_of second → new ≡ with_samples more held
    → new ≡ sums_of (first ++ second)
joined_left first second held more new one other is = is ∙ (λ i. with_samples (other i) (one i)) ∙ together second first ∙ other_order first second

-- ---- a query's samples

pub of_both : (query : Query) (profiles others : List Profile)
    → sums_of (asked_samples query profiles ++ asked_samples query others) ≡ stacks_of query (profiles ++ others)
of_both query profiles others =
    ap sums_of (sym (ap (flat_map (λ (profile : Profile). profile.values)) (filter-append (is_asked query) profiles others)
    ∙ flat_map-append (λ (profile : Profile). profile.values) (asked_of query profiles) (asked_of query others)))

-- the rows so far and the next have no larger total than all
pub within_rows : (rows : List Row) (i : ℕ) (row : Row) → i < length rows → row ≡ get_or rows i row
    → profiles_total (profiles_of (take i rows)) + total_of row.profile.values ≤ profiles_total (profiles_of rows)
within_rows [] i row short is = absurd (omega arith)
within_rows (first ∷ rows) zero row short is =
    let split = sum_by-cons (λ (profile : Profile). total_of profile.values) first.profile (profiles_of rows) in
    let same : total_of row.profile.values ≡ total_of first.profile.values = ap (λ (r : Row). total_of r.profile.values) is in
    omega arith
within_rows (first ∷ rows) (suc i) row short is =
    let whole = sum_by-cons (λ (profile : Profile). total_of profile.values) first.profile (profiles_of rows) in
    let front = sum_by-cons (λ (profile : Profile). total_of profile.values) first.profile (profiles_of (take i rows)) in
    let later = within_rows rows i row (omega arith) is in
    omega arith
