-- Reading line by line.
use Rattle.std.proofs.Common.{◌≡◌, ⊎_elim, ℕ, ◌+◌, ◌<◌, List, [], ◌∷◌, ◌++◌, length, true, false, cond, Result, Ok, Err, refl, sym, ap, ◌∙◌, subst, arith}
use Rattle.std.specs.Prelude.{nat_lt, MatchResult}
use Rattle.std.specs.List.{AllZip}
use Rattle.std.proofs.lemmas.Bool.Decides.{nat_tests}
use Rattle.std.proofs.lemmas.List.{append-nil}
use Rattle.std.proofs.lemmas.List.Elements.{filter-append}
use Rattle.faults.specs.Answers.{IfAnswered, IfFault}
use Rattle.faults.specs.declared.refused.Refused.{Refused}
use Rattle.faults.specs.declared.refused.Refused.TheVariants.{Fault, Memory}
use Rattle.profile_model.specs.Limits.{total_bound}
use Rattle.profile_model.specs.Sums.{Sample, total_of, with_added}
use Rattle.folded_reader.specs.Lines.{IsSample, IsFaultOfLine}
use Rattle.folded_reader.specs.Folded.{filled, IsSumOf, IsFirstFault, IsText, IsRead, lines_of}
use Rattle.folded_reader.specs.declared.line.LineForm.{LineForm}
use Rattle.folded_reader.specs.declared.line.LineForm.TheVariants.{Counted, Bare}
use Rattle.folded_reader.specs.declared.fault.FoldedFault.{FoldedFault}
use Rattle.folded_reader.specs.declared.fault.FoldedFault.TheVariants.{NoCount, BadCount, EmptyFrame, TooLarge, TooDeep, NotUtf8, Compressed, LongFrame}
use Rattle.folded_reader.proofs.SumLemmas.{total-sums_of, sums_of-push, total-push}

AllZip-pushed : {A B : Type 0} (R : A → B → Type 0) (xs : List A) (ys : List B) (x : A) (y : B) → AllZip R xs ys → R x y → AllZip R (xs ++ x ∷ []) (ys ++ y ∷ [])
AllZip-pushed R [] [] x y all one = (one, tt)
AllZip-pushed R [] (b ∷ ys) x y all one = absurd all
AllZip-pushed R (a ∷ xs) [] x y all one = absurd all
AllZip-pushed R (a ∷ xs) (b ∷ ys) x y all one = (all.0, AllZip-pushed R xs ys x y all.1 one)

pub has_bytes_test : (line : List ℕ) → 0 < length line → nat_lt 0 (length line) ≡ true
has_bytes_test line some = grind (arith, nat_tests)

no_bytes_test : (line : List ℕ) → length line ≡ 0 → nat_lt 0 (length line) ≡ false
no_bytes_test line none = grind (arith, nat_tests)

filled-push : (before : List (List ℕ)) (line : List ℕ) → 0 < length line → filled (before ++ line ∷ []) ≡ filled before ++ line ∷ []
filled-push before line some =
    filter-append (λ l. nat_lt 0 (length l)) before (line ∷ []) ∙ ap (λ b. filled before ++ cond b (line ∷ []) []) (has_bytes_test line some)

filled-same : (before : List (List ℕ)) (line : List ℕ) → length line ≡ 0 → filled (before ++ line ∷ []) ≡ filled before
filled-same before line none =
    filter-append (λ l. nat_lt 0 (length l)) before (line ∷ []) ∙ ap (λ b. filled before ++ cond b (line ∷ []) []) (no_bytes_test line none) ∙ append-nil (filled before)

-- before the first line
pub none_read : (form : LineForm) → IsSumOf form [] []
none_read form = record { samples = []; said = record { each = tt; bounded = omega arith }; summed = refl }

-- a line without bytes
pub skipped : (form : LineForm) (before : List (List ℕ)) (line : List ℕ) (sums : List Sample) → length line ≡ 0 → IsSumOf form before sums → IsSumOf form (before ++ line ∷ []) sums
skipped form before line sums none h = record {
  samples = h.samples;
  said = record { each = rw (filled-same before line none) h.said.each; bounded = h.said.bounded };
  summed = h.summed;
}

-- a line that says a sample
pub taken : (form : LineForm) (before : List (List ℕ)) (line : List ℕ) (old new : List Sample) (sample : Sample) → 0 < length line → IsSumOf form before old
    → IsSample form line sample → total_of old + sample.1 < total_bound → new ≡ with_added old sample.0 sample.1 → IsSumOf form (before ++ line ∷ []) new
taken form before line old new sample some h says fits grown = record {
  samples = h.samples ++ sample ∷ [];
  said = record {
    each = rw (filled-push before line some) (AllZip-pushed (IsSample form) (filled before) h.samples line sample h.said.each says);
    bounded =
        let total = ap total_of h.summed ∙ total-sums_of h.samples in
        let push = total-push h.samples sample in omega arith;
  };
  summed = grown ∙ ap (λ s. with_added s sample.0 sample.1) h.summed ∙ sym (sums_of-push h.samples sample);
}

-- the fault of a line whose lines before say samples
pub first_fault : (form : LineForm) (lines before : List (List ℕ)) (line : List ℕ) (after : List (List ℕ)) (sums : List Sample) (number : ℕ) (fault : FoldedFault)
    → lines ≡ before ++ line ∷ after → IsSumOf form before sums → 0 < length line → number ≡ length before + 1
    → IsFaultOfLine form number (total_of sums) line fault → IsFirstFault form lines fault
first_fault form lines before line after sums number fault cut h some number_is here = record {
  before = before;
  line = line;
  after = after;
  cut = cut;
  samples = h.samples;
  said = h.said;
  has_bytes = some;
  here = (let at : IsFaultOfLine form (length before + 1) (total_of h.samples) line fault = subst (λ n. IsFaultOfLine form n (total_of h.samples) line fault) number_is
      (subst (λ t. IsFaultOfLine form number t line fault) (ap total_of h.summed ∙ total-sums_of h.samples) here) in at);
}

not_of_body : (form : LineForm) (n total : ℕ) (line : List ℕ) → ((at : ℕ) → IsFaultOfLine form n total line (NotUtf8 at) → ⊥) × (IsFaultOfLine form n total line Compressed → ⊥)
not_of_body Counted n total line = (
  (λ at h. ⊎_elim (λ a. a) (λ r. ⊎_elim (λ b. b.no_stack) (λ p. p) r) h),
  (λ h. ⊎_elim (λ a. a) (λ r. ⊎_elim (λ b. b.no_stack) (λ p. p) r) h),
)
not_of_body Bare n total line = (
  (λ at h. ⊎_elim (λ a. a) (λ r. ⊎_elim (λ b. b.no_stack) (λ p. p) r) h),
  (λ h. ⊎_elim (λ a. a) (λ r. ⊎_elim (λ b. b.no_stack) (λ p. p) r) h),
)

-- what reading the lines of a text answers is what reading the body answers
pub read_text : (form : LineForm) (body : List ℕ) (r : Result (List Sample) (Refused FoldedFault)) → IsText body
    → MatchResult r (IsSumOf form (lines_of body)) (IfFault (IsFirstFault form (lines_of body))) → IfAnswered (IsRead form body) r
read_text form body (Ok sums) text h = (text, h)
read_text form body (Err Memory) text h = tt
read_text form body (Err (Fault (NoCount n))) text h = (text, h)
read_text form body (Err (Fault (BadCount n))) text h = (text, h)
read_text form body (Err (Fault (EmptyFrame n))) text h = (text, h)
read_text form body (Err (Fault (TooLarge n))) text h = (text, h)
read_text form body (Err (Fault (TooDeep n))) text h = (text, h)
read_text form body (Err (Fault (LongFrame n))) text h = (text, h)
read_text form body (Err (Fault (NotUtf8 at))) text h = absurd ((not_of_body form (length h.before + 1) (total_of h.samples) h.line).0 at h.here)
read_text form body (Err (Fault Compressed)) text h = absurd ((not_of_body form (length h.before + 1) (total_of h.samples) h.line).1 h.here)
