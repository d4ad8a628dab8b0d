-- Sums that are kept as several lists.
use Rattle.std.proofs.Common.{◌≡◌, ℕ, zero, suc, ◌+◌, ◌-◌, ◌<◌, List, [], ◌∷◌, ◌++◌, arith, Bool, true, false, refl, sym, ap, subst, ◌∙◌, length, take, get_or}
use Rattle.std.specs.Prelude.{◌==◌}
use Rattle.std.specs.List.{All, AllByRecursion}
use Rattle.std.specs.List.Sorted.{IsStrictlySortedBy}
use Rattle.std.specs.Map.{keys_of}
use Rattle.std.specs.declared.alloc.Global.{Global}
use Rattle.std.specs.declared.vec.Vec.{Vec}
use Rattle.std.proofs.lemmas.Bool.{eqb-true}
use Rattle.std.proofs.lemmas.Grind.{flat_map-append}
use Rattle.std.proofs.lemmas.List.{take_more}
use Rattle.std.proofs.lemmas.List.Elements.{All-get_or, All-from_recursion, recursion_from_All}
use Rattle.profile_model.proofs.SumLawLemmas.{sums_of-any_order, sums_of-are, sums_of-only}
use Rattle.profile_model.proofs.SumLemmas.{total-insert}
use Rattle.profile_model.specs.Limits.{total_bound}
use Rattle.profile_model.specs.Stacks.{stack_cmp}
use Rattle.profile_model.specs.SumLaw.{value_in}
use Rattle.profile_model.specs.Sums.{AreSums, Sample, sums_of, total_of, with_added}
use Rattle.query_merge.specs.Merging.{with_samples}
use Rattle.query_merge.specs.Runs.{AreJoined, AreRuns, all_samples}
use Rattle.query_merge.proofs.JoinLemmas.{sums_of-sums, total_of-append, total_of-cons, with_samples-both}
use Rattle.query_merge.proofs.SumLemmas.{value_in-append, value_in-sums, value_in-sums_of}

-- ---- all values of sums

total_of-with_added : (sums : List Sample) (stack : List (List ℕ)) (value : ℕ) → IsStrictlySortedBy stack_cmp (keys_of sums)
    → total_of (with_added sums stack value) ≡ total_of sums + value
total_of-with_added sums stack value sorted = by (value == 0) refl
  where
    by : (nothing : Bool) → (value == 0) ≡ nothing → total_of (with_added sums stack value) ≡ total_of sums + value
    by true is = let none = eqb-true value 0 is in rw is (omega arith)
    by false is = rw is (total-insert sums stack value sorted)

total_of-from : (before samples : List Sample) → total_of (with_samples (sums_of before) samples) ≡ total_of (sums_of before) + total_of samples
total_of-from before [] = omega arith
total_of-from before (sample ∷ samples) =
    let one = with_samples-both before (sample ∷ []) in
    let rest = ap (λ sums. total_of (with_samples sums samples)) one ∙ total_of-from (before ++ sample ∷ []) samples in
    let first = ap total_of (sym one) ∙ total_of-with_added (sums_of before) sample.0 sample.1 (sums_of-are before).ascending in
    let split = total_of-cons sample samples in omega arith

-- sums have the total of their samples
pub total_of-sums_of : (samples : List Sample) → total_of (sums_of samples) ≡ total_of samples
total_of-sums_of samples = let all : total_of (sums_of samples) ≡ 0 + total_of samples = total_of-from [] samples in omega arith

-- ---- lists behind one another

all-push : (runs : List (Vec Sample Global)) (run : Vec Sample Global) → all_samples (runs ++ run ∷ []) ≡ all_samples runs ++ run.items
all-push runs run = flat_map-append (λ (run : Vec Sample Global). run.items) runs (run ∷ []) ∙ ap (λ samples. all_samples runs ++ samples) (none run.items)
  where
    none : (xs : List Sample) → xs ++ [] ≡ xs
    none [] = refl
    none (x ∷ xs) = ap (λ rest. x ∷ rest) (none xs)

pub take_all : (runs : List (Vec Sample Global)) → take (length runs) runs ≡ runs
take_all [] = refl
take_all (run ∷ runs) = ap (λ rest. run ∷ rest) (take_all runs)

-- the last of so many lists and those before it
all-last : (runs : List (Vec Sample Global)) (left : ℕ) (last : Vec Sample Global) → left < length runs → get_or runs left last ≡ last
    → all_samples (take (left + 1) runs) ≡ all_samples (take left runs) ++ last.items
all-last runs left last short is =
    ap all_samples (take_more runs left last short ∙ ap (λ run. take left runs ++ run ∷ []) is) ∙ all-push (take left runs) last

pub joined-begins : (runs : List (Vec Sample Global)) (more : List Sample) → AreSums more → AreJoined runs more (length runs) more
joined-begins runs more sums = record {
  within = omega arith;
  sums = sums;
  values = λ stack. ap (λ runs. value_in (all_samples runs) stack + value_in more stack) (take_all runs);
  total = ap (λ runs. total_of (all_samples runs) + total_of more) (take_all runs);
}

-- what two sums come to has the values of both
value_in-both : (first second made : List Sample) → AreSums first → made ≡ with_samples first second → (stack : List (List ℕ))
    → value_in made stack ≡ value_in first stack + value_in second stack
value_in-both first second made sums is stack =
    ap (λ list. value_in list stack) (is ∙ ap (λ list. with_samples list second) (sums_of-sums first sums) ∙ with_samples-both first second)
    ∙ value_in-sums_of (first ++ second) stack ∙ value_in-append first second stack

-- there is room for the last list and what was joined so far
pub joined-has_room : (runs : List (Vec Sample Global)) (more : List Sample) (left : ℕ) (last : Vec Sample Global) (run : List Sample) → AreJoined runs more (left + 1) run
    → get_or runs left last ≡ last → total_of (all_samples runs) + total_of more < total_bound → total_of last.items + total_of run < total_bound
joined-has_room runs more left last run joined is room =
    let total = joined.total in let within = joined.within in
    let split = ap total_of (all-last runs left last (omega arith) is) ∙ total_of-append (all_samples (take left runs)) last.items in omega arith

pub joined-goes_on : (runs : List (Vec Sample Global)) (more : List Sample) (left : ℕ) (last : Vec Sample Global) (run made : List Sample)
    → AreJoined runs more (left + 1) run → get_or runs left last ≡ last → AreSums last.items → AreSums made → made ≡ with_samples last.items run
    → total_of made ≡ total_of last.items + total_of run → AreJoined runs more left made
joined-goes_on runs more left last run made joined is last_sums sums both total_made =
    let within = joined.within in
    let all = all-last runs left last (omega arith) is in
    record {
      within = omega arith;
      sums = sums;
      values = λ stack.
          let before = joined.values stack in
          let split = ap (λ list. value_in list stack) all ∙ value_in-append (all_samples (take left runs)) last.items stack in
          let new = value_in-both last.items run made last_sums both stack in omega arith;
      total = let before = joined.total in let split = ap total_of all ∙ total_of-append (all_samples (take left runs)) last.items in omega arith;
    }

-- the same where the last list is told by the count of those that are left
pub joined-step : (runs : List (Vec Sample Global)) (more : List Sample) (left : ℕ) (last : Vec Sample Global) (run made : List Sample) → AreRuns runs
    → 0 < left → AreJoined runs more left run → get_or runs (left - 1) last ≡ last → AreSums made → made ≡ with_samples last.items run
    → total_of made ≡ total_of last.items + total_of run → AreJoined runs more (left - 1) made
joined-step runs more left last run made kept some joined is sums both total =
    let within = joined.within in
    joined-goes_on runs more (left - 1) last run made (subst (λ left. AreJoined runs more left run) (omega arith) joined) is
    (subst (λ (run : Vec Sample Global). AreSums run.items) is (All-get_or (λ (run : Vec Sample Global). AreSums run.items) runs (left - 1) last (omega arith) kept.each))
    sums both total

-- there is room where the sums have it
pub has_room : (runs : List (Vec Sample Global)) (sums more : List Sample) → sums ≡ sums_of (all_samples runs) → total_of sums + total_of more < total_bound
    → total_of (all_samples runs) + total_of more < total_bound
has_room runs sums more is room = let same = ap total_of is ∙ total_of-sums_of (all_samples runs) in omega arith

pub step-has_room : (runs : List (Vec Sample Global)) (more : List Sample) (left : ℕ) (last : Vec Sample Global) (run : List Sample) → 0 < left
    → AreJoined runs more left run → get_or runs (left - 1) last ≡ last → total_of (all_samples runs) + total_of more < total_bound
    → total_of last.items + total_of run < total_bound
step-has_room runs more left last run some joined is room =
    joined-has_room runs more (left - 1) last run (subst (λ left. AreJoined runs more left run) (omega arith) joined) is room

pub no_sums : AreSums []
no_sums = record { ascending = (sums_of-are []).ascending; positive = (sums_of-are []).positive; bounded = omega arith }

-- all lists, joined
pub all-joined : (runs : List (Vec Sample Global)) (samples : List Sample) → AreJoined runs [] 0 samples → samples ≡ sums_of (all_samples runs)
all-joined runs samples joined = sums_of-only (all_samples runs) samples (record {
  ascending = joined.sums.ascending;
  positive = joined.sums.positive;
  exact = λ stack. let all = joined.values stack in let own = value_in-sums samples stack joined.sums.ascending in omega arith;
})

-- ---- what is kept then

each-push : (runs : List (Vec Sample Global)) (run : Vec Sample Global) → All (λ run. AreSums run.items) runs → AreSums run.items → All (λ run. AreSums run.items) (runs ++ run ∷ [])
each-push runs run each one = All-from_recursion (λ run. AreSums run.items) (runs ++ run ∷ []) (pushed runs (recursion_from_All (λ run. AreSums run.items) runs each))
  where
    pushed : (runs : List (Vec Sample Global)) → AllByRecursion (λ run. AreSums run.items) runs → AllByRecursion (λ run. AreSums run.items) (runs ++ run ∷ [])
    pushed [] all = (one, tt)
    pushed (first ∷ rest) all = (all.0, pushed rest all.1)

each-take : (runs : List (Vec Sample Global)) (left : ℕ) → All (λ run. AreSums run.items) runs → All (λ run. AreSums run.items) (take left runs)
each-take runs left each = All-from_recursion (λ run. AreSums run.items) (take left runs) (taken runs left (recursion_from_All (λ run. AreSums run.items) runs each))
  where
    taken : (runs : List (Vec Sample Global)) (left : ℕ) → AllByRecursion (λ run. AreSums run.items) runs → AllByRecursion (λ run. AreSums run.items) (take left runs)
    taken [] zero all = tt
    taken [] (suc left) all = tt
    taken (first ∷ rest) zero all = tt
    taken (first ∷ rest) (suc left) all = (all.0, taken rest left all.1)

-- the lists with what was joined, and what they come to
pub record ArePut (runs : List (Vec Sample Global)) (more : List Sample) (now : List (Vec Sample Global)) : Type 0 where
  pub kept : AreRuns now
  pub sums : sums_of (all_samples now) ≡ with_samples (sums_of (all_samples runs)) more
  pub total : total_of (sums_of (all_samples now)) ≡ total_of (sums_of (all_samples runs)) + total_of more

pub are-put : (runs : List (Vec Sample Global)) (more : List Sample) (left : ℕ) (run : Vec Sample Global) (now : List (Vec Sample Global)) → AreRuns runs
    → AreJoined runs more left run.items → total_of (all_samples runs) + total_of more < total_bound → now ≡ take left runs ++ run ∷ [] → ArePut runs more now
are-put runs more left run now kept joined room is =
    let all = ap all_samples is ∙ all-push (take left runs) run in
    let total : total_of (all_samples now) ≡ total_of (all_samples runs) + total_of more =
    ap total_of all ∙ total_of-append (all_samples (take left runs)) run.items ∙ joined.total in
    record {
      kept = record {
        each = subst (All (λ run. AreSums run.items)) (sym is) (each-push (take left runs) run (each-take runs left kept.each) joined.sums);
        bounded = omega (arith, total, room);
      };
      sums = sums_of-any_order (all_samples now) (all_samples runs ++ more)
          (λ stack. ap (λ list. value_in list stack) all ∙ value_in-append (all_samples (take left runs)) run.items stack ∙ joined.values stack
          ∙ sym (value_in-append (all_samples runs) more stack))
          ∙ sym (with_samples-both (all_samples runs) more);
      total = let now_total = total_of-sums_of (all_samples now) in let was_total = total_of-sums_of (all_samples runs) in omega arith;
    }
