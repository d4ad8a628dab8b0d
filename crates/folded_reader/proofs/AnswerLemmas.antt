-- A body has one answer.
use Rattle.std.proofs.Common.{◌≡◌, ◌≢◌, ◌⊎◌, inl, inr, ⊎_elim, ℕ, ◌+◌, ◌<◌, List, [], ◌∷◌, ◌++◌, length, cond, Result, Ok, Err, refl, sym, ap, ◌∙◌, subst, arith}
use Rattle.std.specs.Prelude.{nat_lt}
use Rattle.std.specs.List.{All, Any, AllZip}
use Rattle.std.specs.Str.{IsUtf8, IsValidUpTo}
use Rattle.std.specs.Str.Parse.{digits_value}
use Rattle.std.proofs.lemmas.List.Elements.{All-head, All-tail, filter-append}
use Rattle.std.proofs.lemmas.Str.{utf8_valid_len-IsValidUpTo}
use Rattle.wire_forms.specs.Gzip.{IsGzip}
use Rattle.profile_model.specs.Limits.{most_frame_bytes, total_bound}
use Rattle.profile_model.specs.Stacks.{IsFrame, IsStack}
use Rattle.profile_model.specs.Sums.{Sample, total_of, sums_of}
use Rattle.folded_reader.specs.Lines.{frames_of, IsCutAtLastSpace, IsCount, Says, IsSample, SaysNothing, SaysNoStack, AreNoStack, PassesLimit, IsFaultOfLine}
use Rattle.folded_reader.specs.Folded.{filled, lines_of, AreSamples, IsSumOf, IsFirstFault, IsText, IsRead}
use Rattle.folded_reader.specs.declared.line.LineForm.{LineForm}
use Rattle.folded_reader.specs.declared.line.LineForm.TheVariants.{Counted, Bare}
use Rattle.folded_reader.specs.declared.fault.FoldedFault.{FoldedFault}
use Rattle.folded_reader.specs.declared.fault.FoldedFault.TheVariants.{NoCount, BadCount, EmptyFrame, TooLarge, TooDeep, NotUtf8, Compressed, LongFrame}
use Rattle.folded_reader.proofs.ReaderLemmas.{has_bytes_test}
use Rattle.folded_reader.proofs.SumLemmas.{total-cons, total-append}

-- ---- a line

has_space : (stack digits : List ℕ) → All (λ b. b ≢ 32) (stack ++ 32 ∷ digits) → ⊥
has_space [] digits none = All-head (λ b. b ≢ 32) 32 digits none refl
has_space (b ∷ bs) digits none = has_space bs digits (All-tail (λ b. b ≢ 32) b (bs ++ 32 ∷ digits) none)

cut_unique : (s d t e : List ℕ) → s ++ 32 ∷ d ≡ t ++ 32 ∷ e → All (λ b. b ≢ 32) d → All (λ b. b ≢ 32) e → (s ≡ t) × (d ≡ e)
cut_unique [] d [] e same last last' = let rest : d ≡ e = cc in (refl, rest)
cut_unique [] d (y ∷ t) e same last last' = let rest : d ≡ t ++ 32 ∷ e = cc in absurd (has_space t e (subst (All (λ b. b ≢ 32)) rest last))
cut_unique (x ∷ s) d [] e same last last' = let rest : e ≡ s ++ 32 ∷ d = cc in absurd (has_space s d (subst (All (λ b. b ≢ 32)) rest last'))
cut_unique (x ∷ s) d (y ∷ t) e same last last' =
    let one : x ≡ y = cc in
    let rest : s ++ 32 ∷ d ≡ t ++ 32 ∷ e = cc in
    let more = cut_unique s d t e rest last last' in ((λ i. one i ∷ more.0 i), more.1)

cut_same : (line s d t e : List ℕ) → IsCutAtLastSpace line s d → IsCutAtLastSpace line t e → (s ≡ t) × (d ≡ e)
cut_same line s d t e h k = cut_unique s d t e (sym h.joined ∙ k.joined) h.last k.last

says_same : (form : LineForm) (line s t : List ℕ) (m n : ℕ) → Says form line s m → Says form line t n → (s ≡ t) × (m ≡ n)
says_same Counted line s t m n h k =
    let cut = cut_same line s h.0 t k.0 h.1 k.1 in (cut.0, h.2.value ∙ ap (digits_value 10) cut.1 ∙ sym k.2.value)
says_same Bare line s t m n h k = (h.0 ∙ sym k.0, h.1 ∙ sym k.1)

sample_same : (form : LineForm) (line : List ℕ) (a b : Sample) → IsSample form line a → IsSample form line b → a ≡ b
sample_same form line a b h k =
    let said = says_same form line h.text k.text a.1 b.1 h.says k.says in
    let stack : a.0 ≡ b.0 = h.frames ∙ ap frames_of said.0 ∙ sym k.frames in (λ i. (stack i, said.1 i))

samples_same : (form : LineForm) (lines : List (List ℕ)) (xs ys : List Sample) → AllZip (IsSample form) lines xs → AllZip (IsSample form) lines ys → xs ≡ ys
samples_same form [] [] [] h k = refl
samples_same form [] [] (y ∷ ys) h k = absurd k
samples_same form [] (x ∷ xs) ys h k = absurd h
samples_same form (l ∷ lines) [] ys h k = absurd h
samples_same form (l ∷ lines) (x ∷ xs) [] h k = absurd k
samples_same form (l ∷ lines) (x ∷ xs) (y ∷ ys) h k =
    let one = sample_same form l x y h.0 k.0 in let rest = samples_same form lines xs ys h.1 k.1 in (λ i. one i ∷ rest i)

-- ---- what excludes what

says_not_nothing : (form : LineForm) (n : ℕ) (line text : List ℕ) (count : ℕ) (fault : FoldedFault) → Says form line text count → SaysNothing form n line fault → ⊥
says_not_nothing Counted n line text count (NoCount at) h k = has_space text h.0 (subst (All (λ b. b ≢ 32)) h.1.joined k.1)
says_not_nothing Counted n line text count (BadCount at) h k =
    let cut = cut_same line text h.0 k.1 k.2 h.1 k.3 in k.4 count (subst (λ d. IsCount d count) cut.1 h.2)
says_not_nothing Counted n line text count fault h k = k
says_not_nothing Bare n line text count fault h k = k

frame_at : (frames : List (List ℕ)) (Wrong : List ℕ → Type 0) → ((frame : List ℕ) → IsFrame frame → Wrong frame → ⊥) → All IsFrame frames → Any Wrong frames → ⊥
frame_at frames Wrong refutes each any = refutes any.1 (subst IsFrame any.3 (each any.0 any.1 any.2)) any.4

stack_not_none : (n : ℕ) (frames : List (List ℕ)) (fault : FoldedFault) → IsStack frames → AreNoStack n frames fault → ⊥
stack_not_none n frames (EmptyFrame at) h k = frame_at frames (λ f. length f ≡ 0) (λ f sized empty. let some = sized.0 in omega arith) h.each k.1
stack_not_none n frames (TooDeep at) h k = let few = h.few in let deep = k.2 in omega arith
stack_not_none n frames (LongFrame at) h k = frame_at frames (λ f. most_frame_bytes < length f) (λ f sized long. let few = sized.1 in omega arith) h.each k.3
stack_not_none n frames fault h k = k

sample_not_none : (form : LineForm) (n : ℕ) (line : List ℕ) (sample : Sample) (fault : FoldedFault) → IsSample form line sample → SaysNoStack form n line fault → ⊥
sample_not_none form n line sample fault h k =
    let said = says_same form line h.text k.text sample.1 k.count h.says k.says in
    stack_not_none n (frames_of k.text) fault (subst IsStack (h.frames ∙ ap frames_of said.0) h.stack) k.no_stack

sample_not_over : (form : LineForm) (n total : ℕ) (line : List ℕ) (sample : Sample) (fault : FoldedFault) → IsSample form line sample → total + sample.1 < total_bound
    → PassesLimit form n total line fault → ⊥
sample_not_over form n total line sample (TooLarge at) h fits k =
    let same = ap (λ (s : Sample). s.1) (sample_same form line sample k.1 h k.2) in let over = k.3 in omega arith
sample_not_over form n total line sample fault h fits k = k

-- a line that says a sample within the limit has no fault
sample_not_fault : (form : LineForm) (n total : ℕ) (line : List ℕ) (sample : Sample) (fault : FoldedFault) → IsSample form line sample → total + sample.1 < total_bound
    → IsFaultOfLine form n total line fault → ⊥
sample_not_fault form n total line sample fault h fits k =
    ⊎_elim (λ nothing. says_not_nothing form n line h.text sample.1 fault h.says nothing)
    (λ rest. ⊎_elim (λ none. sample_not_none form n line sample fault h none) (λ over. sample_not_over form n total line sample fault h fits over) rest) k

-- ---- the fault of a line

nothing_same : (form : LineForm) (n : ℕ) (line : List ℕ) (f g : FoldedFault) → SaysNothing form n line f → SaysNothing form n line g → f ≡ g
nothing_same Counted n line (NoCount a) (NoCount b) h k = ap NoCount (h.0 ∙ sym k.0)
nothing_same Counted n line (NoCount a) (BadCount b) h k = absurd (has_space k.1 k.2 (subst (All (λ c. c ≢ 32)) k.3.joined h.1))
nothing_same Counted n line (NoCount a) g h k = absurd k
nothing_same Counted n line (BadCount a) (NoCount b) h k = absurd (has_space h.1 h.2 (subst (All (λ c. c ≢ 32)) h.3.joined k.1))
nothing_same Counted n line (BadCount a) (BadCount b) h k = ap BadCount (h.0 ∙ sym k.0)
nothing_same Counted n line (BadCount a) g h k = absurd k
nothing_same Counted n line f g h k = absurd h
nothing_same Bare n line f g h k = absurd h

all_not_any_empty : (frames : List (List ℕ)) → All (λ f. 0 < length f) frames → Any (λ f. length f ≡ 0) frames → ⊥
all_not_any_empty frames named any =
    let some : 0 < length any.1 = subst (λ f. 0 < length f) any.3 (named any.0 any.1 any.2) in let none = any.4 in omega arith

none_same : (n : ℕ) (frames : List (List ℕ)) (f g : FoldedFault) → AreNoStack n frames f → AreNoStack n frames g → f ≡ g
none_same n frames (EmptyFrame a) (EmptyFrame b) h k = ap EmptyFrame (h.0 ∙ sym k.0)
none_same n frames (EmptyFrame a) (TooDeep b) h k = absurd (all_not_any_empty frames k.1 h.1)
none_same n frames (EmptyFrame a) (LongFrame b) h k = absurd (all_not_any_empty frames k.1 h.1)
none_same n frames (EmptyFrame a) g h k = absurd k
none_same n frames (TooDeep a) (EmptyFrame b) h k = absurd (all_not_any_empty frames h.1 k.1)
none_same n frames (TooDeep a) (TooDeep b) h k = ap TooDeep (h.0 ∙ sym k.0)
none_same n frames (TooDeep a) (LongFrame b) h k = absurd (let deep = h.2 in let few = k.2 in omega arith)
none_same n frames (TooDeep a) g h k = absurd k
none_same n frames (LongFrame a) (EmptyFrame b) h k = absurd (all_not_any_empty frames h.1 k.1)
none_same n frames (LongFrame a) (TooDeep b) h k = absurd (let few = h.2 in let deep = k.2 in omega arith)
none_same n frames (LongFrame a) (LongFrame b) h k = ap LongFrame (h.0 ∙ sym k.0)
none_same n frames (LongFrame a) g h k = absurd k
none_same n frames f g h k = absurd h

no_stack_same : (form : LineForm) (n : ℕ) (line : List ℕ) (f g : FoldedFault) → SaysNoStack form n line f → SaysNoStack form n line g → f ≡ g
no_stack_same form n line f g h k =
    let said = says_same form line h.text k.text h.count k.count h.says k.says in
    none_same n (frames_of k.text) f g (subst (λ t. AreNoStack n (frames_of t) f) said.0 h.no_stack) k.no_stack

over_same : (form : LineForm) (n total : ℕ) (line : List ℕ) (f g : FoldedFault) → PassesLimit form n total line f → PassesLimit form n total line g → f ≡ g
over_same form n total line (TooLarge a) (TooLarge b) h k = ap TooLarge (h.0 ∙ sym k.0)
over_same form n total line (TooLarge a) g h k = absurd k
over_same form n total line f g h k = absurd h

over_sample : (form : LineForm) (n total : ℕ) (line : List ℕ) (f : FoldedFault) → PassesLimit form n total line f → (sample : Sample) × IsSample form line sample
over_sample form n total line (TooLarge a) h = (h.1, h.2)
over_sample form n total line f h = absurd h

nothing_not_none : (form : LineForm) (n : ℕ) (line : List ℕ) (f g : FoldedFault) → SaysNothing form n line f → SaysNoStack form n line g → ⊥
nothing_not_none form n line f g h k = says_not_nothing form n line k.text k.count f k.says h

nothing_not_over : (form : LineForm) (n total : ℕ) (line : List ℕ) (f g : FoldedFault) → SaysNothing form n line f → PassesLimit form n total line g → ⊥
nothing_not_over form n total line f g h k = let s = over_sample form n total line g k in says_not_nothing form n line s.1.text s.0.1 f s.1.says h

none_not_over : (form : LineForm) (n total : ℕ) (line : List ℕ) (f g : FoldedFault) → SaysNoStack form n line f → PassesLimit form n total line g → ⊥
none_not_over form n total line f g h k = let s = over_sample form n total line g k in sample_not_none form n line s.0 f s.1 h

fault_same : (form : LineForm) (n total : ℕ) (line : List ℕ) (f g : FoldedFault) → IsFaultOfLine form n total line f → IsFaultOfLine form n total line g → f ≡ g
fault_same form n total line f g h k =
    ⊎_elim
    (λ a. ⊎_elim (λ b. nothing_same form n line f g a b)
    (λ r. ⊎_elim (λ b. absurd (nothing_not_none form n line f g a b)) (λ b. absurd (nothing_not_over form n total line f g a b)) r) k)
    (λ q. ⊎_elim
    (λ a. ⊎_elim (λ b. absurd (nothing_not_none form n line g f b a))
    (λ r. ⊎_elim (λ b. no_stack_same form n line f g a b) (λ b. absurd (none_not_over form n total line f g a b)) r) k)
    (λ a. ⊎_elim (λ b. absurd (nothing_not_over form n total line g f b a))
    (λ r. ⊎_elim (λ b. absurd (none_not_over form n total line g f b a)) (λ b. over_same form n total line f g a b) r) k)
    q)
    h

-- ---- the first line that has one

filled-at : (before : List (List ℕ)) (line : List ℕ) (after : List (List ℕ)) → 0 < length line → filled (before ++ line ∷ after) ≡ filled before ++ line ∷ filled after
filled-at before line after some =
    filter-append (λ l. nat_lt 0 (length l)) before (line ∷ after)
    ∙ ap (λ b. filled before ++ cond b (line ∷ filled after) (filled after)) (has_bytes_test line some)

-- the samples of the lines before one, and its own
pub record AreSplit (form : LineForm) (before : List (List ℕ)) (line : List ℕ) (samples : List Sample) : Type 0 where
  front : List Sample
  own : Sample
  back : List Sample
  parts : samples ≡ front ++ own ∷ back
  earlier : AllZip (IsSample form) before front
  said : IsSample form line own

split_at : (form : LineForm) (before : List (List ℕ)) (line : List ℕ) (after : List (List ℕ)) (samples : List Sample)
    → AllZip (IsSample form) (before ++ line ∷ after) samples → AreSplit form before line samples
split_at form [] line after [] h = absurd h
split_at form [] line after (s ∷ ss) h = record { front = []; own = s; back = ss; parts = refl; earlier = tt; said = h.0 }
split_at form (b ∷ bs) line after [] h = absurd h
split_at form (b ∷ bs) line after (s ∷ ss) h =
    let rest = split_at form bs line after ss h.1 in
    record { front = s ∷ rest.front; own = rest.own; back = rest.back; parts = ap (λ r. s ∷ r) rest.parts; earlier = (h.0, rest.earlier); said = rest.said }

-- a line among lines that say samples has no fault
among : (form : LineForm) (before : List (List ℕ)) (line : List ℕ) (after : List (List ℕ)) (front samples : List Sample) (n : ℕ) (fault : FoldedFault)
    → AreSamples form before front → AreSamples form (before ++ line ∷ after) samples → 0 < length line → IsFaultOfLine form n (total_of front) line fault → ⊥
among form before line after front samples n fault earlier all some here =
    let split = split_at form (filled before) line (filled after) samples (subst (λ ls. AllZip (IsSample form) ls samples) (filled-at before line after some) all.each) in
    let same = ap total_of (samples_same form (filled before) front split.front earlier.each split.earlier) in
    let parts = ap total_of split.parts in
    let sum = total-append split.front (split.own ∷ split.back) in
    let own = total-cons split.own split.back in
    let bound = all.bounded in
    sample_not_fault form n (total_of front) line split.own fault split.said (omega arith) here

pub record AreOrdered {X : Type 0} (b : List X) (l : X) (c : List X) (m : X) : Type 0 where
  holds : ((b ≡ c) × (l ≡ m)) ⊎ (((d : List X) × (c ≡ b ++ l ∷ d)) ⊎ ((d : List X) × (b ≡ c ++ m ∷ d)))

later_both : {X : Type 0} (x y : X) (b : List X) (l : X) (c : List X) (m : X) → x ≡ y → AreOrdered b l c m → AreOrdered (x ∷ b) l (y ∷ c) m
later_both x y b l c m one rest = record {
  holds =
      ⊎_elim (λ same. inl ((λ i. one i ∷ same.0 i), same.1))
      (λ r. ⊎_elim (λ first. inr (inl (first.0, (λ i. sym one i ∷ first.1 i)))) (λ second. inr (inr (second.0, (λ i. one i ∷ second.1 i)))) r) rest.holds;
}

ordered : {X : Type 0} (b : List X) (l : X) (u : List X) (c : List X) (m : X) (v : List X) → b ++ l ∷ u ≡ c ++ m ∷ v → AreOrdered b l c m
ordered [] l u [] m v same = let one : l ≡ m = cc in record { holds = inl (refl, one) }
ordered [] l u (y ∷ c) m v same = let one : y ≡ l = cc in record { holds = inr (inl (c, (λ i. one i ∷ c))) }
ordered (x ∷ b) l u [] m v same = let one : x ≡ m = cc in record { holds = inr (inr (b, (λ i. one i ∷ b))) }
ordered (x ∷ b) l u (y ∷ c) m v same =
    let one : x ≡ y = cc in let rest : b ++ l ∷ u ≡ c ++ m ∷ v = cc in later_both x y b l c m one (ordered b l u c m v rest)

same_line : (form : LineForm) (lines : List (List ℕ)) (f g : FoldedFault) (h : IsFirstFault form lines f) (k : IsFirstFault form lines g)
    → h.before ≡ k.before → h.line ≡ k.line → f ≡ g
same_line form lines f g h k before line =
    let samples : h.samples ≡ k.samples = samples_same form (filled k.before) h.samples k.samples (subst (λ b. AllZip (IsSample form) (filled b) h.samples) before h.said.each) k.said.each in
    let here : IsFaultOfLine form (length k.before + 1) (total_of k.samples) k.line f =
    subst (λ l. IsFaultOfLine form (length k.before + 1) (total_of k.samples) l f) line
    (subst (λ s. IsFaultOfLine form (length k.before + 1) (total_of s) h.line f) samples
    (subst (λ b. IsFaultOfLine form (length b + 1) (total_of h.samples) h.line f) before h.here)) in
    fault_same form (length k.before + 1) (total_of k.samples) k.line f g here k.here

first_same : (form : LineForm) (lines : List (List ℕ)) (f g : FoldedFault) → IsFirstFault form lines f → IsFirstFault form lines g → f ≡ g
first_same form lines f g h k =
    ⊎_elim (λ same. same_line form lines f g h k same.0 same.1)
    (λ r. ⊎_elim
    (λ first. absurd (among form h.before h.line first.0 h.samples k.samples (length h.before + 1) f h.said (subst (λ b. AreSamples form b k.samples) first.1 k.said) h.has_bytes h.here))
    (λ second. absurd (among form k.before k.line second.0 k.samples h.samples (length k.before + 1) g k.said (subst (λ b. AreSamples form b h.samples) second.1 h.said) k.has_bytes k.here))
    r)
    (ordered h.before h.line h.after k.before k.line k.after (sym h.cut ∙ k.cut)).holds

sum_not_fault : (form : LineForm) (lines : List (List ℕ)) (sums : List Sample) (fault : FoldedFault) → IsSumOf form lines sums → IsFirstFault form lines fault → ⊥
sum_not_fault form lines sums fault h k =
    among form k.before k.line k.after k.samples h.samples (length k.before + 1) fault k.said (subst (λ ls. AreSamples form ls h.samples) k.cut h.said) k.has_bytes k.here

sums_same : (form : LineForm) (lines : List (List ℕ)) (a b : List Sample) → IsSumOf form lines a → IsSumOf form lines b → a ≡ b
sums_same form lines a b h k = h.summed ∙ ap sums_of (samples_same form (filled lines) h.samples k.samples h.said.each k.said.each) ∙ sym k.summed

-- ---- a body

-- the four kinds of answer
data Kind (form : LineForm) (body : List ℕ) (r : Result (List Sample) FoldedFault) : Type 0 where
  packed : r ≡ Err Compressed → IsGzip body → Kind form body r
  broken : (at : ℕ) → r ≡ Err (NotUtf8 at) → (¬ (IsGzip body)) → (¬ (IsUtf8 body)) → IsValidUpTo body at → Kind form body r
  summed : (sums : List Sample) → r ≡ Ok sums → IsText body → IsSumOf form (lines_of body) sums → Kind form body r
  faulty : (fault : FoldedFault) → r ≡ Err fault → IsText body → IsFirstFault form (lines_of body) fault → Kind form body r

kind_of : (form : LineForm) (body : List ℕ) (r : Result (List Sample) FoldedFault) → IsRead form body r → Kind form body r
kind_of form body (Ok sums) h = summed sums refl h.0 h.1
kind_of form body (Err Compressed) h = packed refl h
kind_of form body (Err (NotUtf8 at)) h = broken at refl h.0 h.1 h.2
kind_of form body (Err (NoCount n)) h = faulty (NoCount n) refl h.0 h.1
kind_of form body (Err (BadCount n)) h = faulty (BadCount n) refl h.0 h.1
kind_of form body (Err (EmptyFrame n)) h = faulty (EmptyFrame n) refl h.0 h.1
kind_of form body (Err (TooLarge n)) h = faulty (TooLarge n) refl h.0 h.1
kind_of form body (Err (TooDeep n)) h = faulty (TooDeep n) refl h.0 h.1
kind_of form body (Err (LongFrame n)) h = faulty (LongFrame n) refl h.0 h.1

kinds_same : (form : LineForm) (body : List ℕ) (a b : Result (List Sample) FoldedFault) → Kind form body a → Kind form body b → a ≡ b
kinds_same form body a b (packed is gzip) (packed is' gzip') = is ∙ sym is'
kinds_same form body a b (packed is gzip) (broken at is' plain' bad' upto') = absurd (plain' gzip)
kinds_same form body a b (packed is gzip) (summed s is' text' h') = absurd (text'.plain gzip)
kinds_same form body a b (packed is gzip) (faulty f is' text' h') = absurd (text'.plain gzip)
kinds_same form body a b (broken at is plain bad upto) (packed is' gzip') = absurd (plain gzip')
kinds_same form body a b (broken at is plain bad upto) (broken at' is' plain' bad' upto') =
    let same : at ≡ at' = sym (utf8_valid_len-IsValidUpTo body at upto) ∙ utf8_valid_len-IsValidUpTo body at' upto' in
    is ∙ ap (λ n. Err (NotUtf8 n)) same ∙ sym is'
kinds_same form body a b (broken at is plain bad upto) (summed s is' text' h') = absurd (bad text'.utf8)
kinds_same form body a b (broken at is plain bad upto) (faulty f is' text' h') = absurd (bad text'.utf8)
kinds_same form body a b (summed s is text h) (packed is' gzip') = absurd (text.plain gzip')
kinds_same form body a b (summed s is text h) (broken at is' plain' bad' upto') = absurd (bad' text.utf8)
kinds_same form body a b (summed s is text h) (summed s' is' text' h') = is ∙ ap Ok (sums_same form (lines_of body) s s' h h') ∙ sym is'
kinds_same form body a b (summed s is text h) (faulty f is' text' h') = absurd (sum_not_fault form (lines_of body) s f h h')
kinds_same form body a b (faulty f is text h) (packed is' gzip') = absurd (text.plain gzip')
kinds_same form body a b (faulty f is text h) (broken at is' plain' bad' upto') = absurd (bad' text.utf8)
kinds_same form body a b (faulty f is text h) (summed s is' text' h') = absurd (sum_not_fault form (lines_of body) s f h' h)
kinds_same form body a b (faulty f is text h) (faulty g is' text' h') = is ∙ ap Err (first_same form (lines_of body) f g h h') ∙ sym is'

pub one_answer : (form : LineForm) (body : List ℕ) (first second : Result (List Sample) FoldedFault) → IsRead form body first → IsRead form body second
    → first ≡ second
one_answer form body first second h k =
    kinds_same form body first second (kind_of form body first h) (kind_of form body second k)
