-- Where a run of bytes ends, that a text may be cut there, and that there is one such place.
use Rattle.std.proofs.Common.{◌≡◌, ℕ, zero, suc, ◌+◌, ◌<◌, ◌≤◌, Bool, true, false, not, cond, ◌&&◌, List, [], ◌∷◌, ◌++◌, length, take, drop, get_or, refl, sym, subst, arith, append-nil, Some, None}
use Rattle.std.specs.Prelude.{IsTrue, IsFalse, position, nat_lt}
use Rattle.std.specs.Cmp.{first_so, second_so}
use Rattle.std.specs.List.{list_all, position_or_len}
use Rattle.std.specs.Str.{IsUtf8, IsCharBoundary}
use Rattle.std.proofs.lemmas.Bool.{true≢false}
use Rattle.std.proofs.lemmas.Bool.Decides.{nat_tests}
use Rattle.std.proofs.lemmas.List.{get_or-take, get_or_default, length-take, take-append-drop}
use Rattle.std.proofs.lemmas.List.Sums.{fails_before_first, passes_at_first, list_all-from_AllPass}
use Rattle.std.proofs.lemmas.Str.{IsCharBoundary-before_ascii, IsCharBoundary-after_ascii, IsCharBoundary-start}
use Rattle.std.proofs.Math.Seq.{drop-cons}
use Rattle.selector.specs.Runs.{begins_with, is_in, IsRun}
use Rattle.selector.specs.declared.tokens.Class.{Class}
use Rattle.selector.specs.declared.tokens.Class.TheVariants.{Space, Name, Plain}
use Rattle.selector.proofs.ByteLemmas.{both, ascii_in, ascii_out}

pub run_same : (test : ℕ → Bool) (a b t u : List ℕ) → a ++ t ≡ b ++ u → IsTrue (list_all test a) → IsTrue (list_all test b)
    → IsFalse (begins_with test t) → IsFalse (begins_with test u) → (a ≡ b) × (t ≡ u)
run_same test [] [] t u same pa pb et eu = (refl, same)
run_same test [] (y ∷ b) t u same pa pb et eu =
    absurd (both (test y) (first_so (test y) (list_all test b) pb) (subst (λ r. IsFalse (begins_with test r)) same et))
run_same test (x ∷ a) [] t u same pa pb et eu =
    absurd (both (test x) (first_so (test x) (list_all test a) pa) (subst (λ r. IsFalse (begins_with test r)) (sym same) eu))
run_same test (x ∷ a) (y ∷ b) t u same pa pb et eu =
    let one : x ≡ y = cc in
    let rest : a ++ t ≡ b ++ u = cc in
    let more = run_same test a b t u rest (second_so (test x) (list_all test a) pa) (second_so (test y) (list_all test b) pb) et eu in
    ((λ i. one i ∷ more.0 i), more.1)

pub all_append : (test : ℕ → Bool) (a b : List ℕ) → IsTrue (list_all test a) → IsTrue (list_all test b) → IsTrue (list_all test (a ++ b))
all_append test [] b pa pb = pb
all_append test (x ∷ a) b pa pb = by (test x) (first_so (test x) (list_all test a) pa) (all_append test a b (second_so (test x) (list_all test a) pa) pb)
  where
    by : (here : Bool) → here ≡ true → IsTrue (list_all test (a ++ b)) → IsTrue (here && list_all test (a ++ b))
    by true pass more = more
    by false pass more = absurd (true≢false (sym pass))

pub all_back : (test : ℕ → Bool) (a b : List ℕ) → IsTrue (list_all test (a ++ b)) → IsTrue (list_all test b)
all_back test [] b all = all
all_back test (x ∷ a) b all = all_back test a b (second_so (test x) (list_all test (a ++ b)) all)

-- ---- where it ends

double_not : (b : Bool) → not b ≡ false → b ≡ true
double_not true h = refl
double_not false h = sym h

not_passes : (b : Bool) → not b ≡ true → b ≡ false
not_passes true h = absurd (true≢false (sym h))
not_passes false h = refl

some_at : (here : Bool) (n at : ℕ) → cond here (Some n) None ≡ Some at → (here ≡ true) × (n ≡ at)
some_at true n at h = (refl, cc)
some_at false n at h = absurd cc

none_at : (here : Bool) (n : ℕ) → cond here (Some n) None ≡ None → here ≡ false
none_at true n h = absurd cc
none_at false n h = refl

-- the byte at the place doesn't pass, and those before it do
pub record IsEnd (test : ℕ → Bool) (text : List ℕ) (at : ℕ) : Type 0 where
  pub within : at < length text
  pub before : (k : ℕ) → k < at → test (get_or text k 0) ≡ true
  pub here : test (get_or text at 0) ≡ false

pub end_of : (test : ℕ → Bool) (text : List ℕ) (at : ℕ) → Some at ≡ position (λ b. not (test b)) text → IsEnd test text at
end_of test text at is =
    let found = some_at (nat_lt (position_or_len (λ b. not (test b)) text) (length text)) (position_or_len (λ b. not (test b)) text) at (sym is) in
    let inside : position_or_len (λ b. not (test b)) text < length text = grind (arith, nat_tests, found.0) in
    let place = found.1 in
    record {
      within = omega arith;
      before = λ k below. double_not (test (get_or text k 0)) (fails_before_first (λ b. not (test b)) text k 0 (omega arith));
      here = subst (λ n. test (get_or text n 0) ≡ false) place (not_passes _ (passes_at_first (λ b. not (test b)) text 0 inside));
    }

pub cut_at : (test : ℕ → Bool) (text : List ℕ) (at : ℕ) → IsEnd test text at → IsRun test text (take at text) (drop at text)
cut_at test text at end = record {
  joined = sym (take-append-drop at text);
  pass =
      list_all-from_AllPass test (take at text) (λ k d short.
      let size = length-take at text in
      let inside : k < at = omega arith in
      passes k d inside);
  ends = let within = end.within in rw (drop-cons text at 0) end.here;
}
  where
    passes : (k d : ℕ) → k < at → test (get_or (take at text) k d) ≡ true
    passes k d inside =
        let within = end.within in
        let long : k < length text = omega arith in
        rw (get_or-take at text k d inside, get_or_default text k d 0 long) (end.before k inside)

pub all_of : (test : ℕ → Bool) (text : List ℕ) → None ≡ position (λ b. not (test b)) text → IsRun test text text []
all_of test text is =
    let none = none_at (nat_lt (position_or_len (λ b. not (test b)) text) (length text)) (position_or_len (λ b. not (test b)) text) (sym is) in
    let past : length text ≤ position_or_len (λ b. not (test b)) text = grind (arith, nat_tests, none) in
    record {
      joined = sym (append-nil text);
      pass = list_all-from_AllPass test text (λ k d short. double_not _ (fails_before_first (λ b. not (test b)) text k d (omega arith)));
      ends = refl;
    }

-- a text may be cut where a run of one class ends
pub may_cut : (class : Class) (text : List ℕ) (at : ℕ) → IsUtf8 text → IsEnd (is_in class) text at → IsCharBoundary text at
may_cut Plain text at utf8 end = IsCharBoundary-before_ascii text at end.within (ascii_out (get_or text at 0) end.here)
may_cut Space text zero utf8 end = IsCharBoundary-start text utf8
may_cut Space text (suc k) utf8 end =
    let within = end.within in
    let next : k + 1 ≡ suc k = omega arith in
    subst (IsCharBoundary text) next (IsCharBoundary-after_ascii text k utf8 (omega arith) (ascii_in Space (get_or text k 0) (λ same. cc) (end.before k (omega arith))))
may_cut Name text zero utf8 end = IsCharBoundary-start text utf8
may_cut Name text (suc k) utf8 end =
    let within = end.within in
    let next : k + 1 ≡ suc k = omega arith in
    subst (IsCharBoundary text) next (IsCharBoundary-after_ascii text k utf8 (omega arith) (ascii_in Name (get_or text k 0) (λ same. cc) (end.before k (omega arith))))
