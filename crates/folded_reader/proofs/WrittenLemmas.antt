-- What is written is read back.
use Rattle.std.proofs.Common.{◌≡◌, ◌≢◌, ◌==◌, ℕ, ◌+◌, ◌^◌, ◌<◌, ◌≤◌, List, [], ◌∷◌, ◌++◌, length, get_or, map, Bool, true, false, cond, ◌&&◌, Some, None, zero, suc, refl, sym, ap, ◌∙◌, arith, lit<}
use Rattle.std.specs.Prelude.{decimal, nat_eq, fold, unwrap_or}
use Rattle.std.specs.List.{All, AllZip, AllByRecursion, join_with_byte}
use Rattle.std.specs.List.Sorted.{IsStrictlySortedBy}
use Rattle.std.specs.Map.{keys_of, values_of, lookup}
use Rattle.std.specs.BTreeMap.{insert_entry, is_at}
use Rattle.std.specs.Ordering.{ordering_reverse, match_ordering, is_eq}
use Rattle.std.specs.declared.cmp.Ordering.TheVariants.{Less, Greater}
use Rattle.std.specs.Str.{IsUtf8}
use Rattle.std.proofs.lemmas.Bool.Decides.{nat_tests}
use Rattle.std.proofs.lemmas.Fmt.{decimal_is_IsNumeral, IsAscii-decimal}
use Rattle.std.proofs.lemmas.List.{append_assoc, append-nil, get_or_default, length-append}
use Rattle.std.proofs.lemmas.List.Elements.{All-nil, All-cons, All-head, All-tail, All-append, All-weaker}
use Rattle.std.proofs.lemmas.List.Splits.{slice_split_none, slice_split_at}
use Rattle.std.proofs.lemmas.Str.{IsUtf8-append, IsUtf8-nil, IsUtf8-from_ascii}
use Rattle.std.proofs.lemmas.Str.Parse.{digit_at}
use Rattle.wire_forms.specs.Gzip.{IsGzip}
use Rattle.profile_model.specs.Limits.{total_bound}
use Rattle.profile_model.specs.Stacks.{stack_cmp}
use Rattle.profile_model.specs.StackOrder.{stacks_total}
use Rattle.profile_model.specs.Sums.{Sample, total_of, value_of}
use Rattle.folded_reader.specs.Lines.{frames_of, IsSample}
use Rattle.folded_reader.specs.Folded.{filled, lines_of}
use Rattle.folded_reader.specs.Written.{written_byte, written_stack, written_line, written_text}
use Rattle.folded_reader.specs.Laws.{IsPlain, IsReadBack}
use Rattle.folded_reader.specs.declared.line.LineForm.TheVariants.{Counted}
use Rattle.folded_reader.proofs.SumLemmas.{AreInOrder, add_sample, total-cons}
use Rattle.folded_reader.proofs.ReaderLemmas.{has_bytes_test}

-- a byte that is written as it is
abbrev pub IsKept : ℕ → Type 0
IsKept b = (32 ≤ b) × (b ≢ 59)

written_byte-kept : (b : ℕ) → IsKept b → written_byte b ≡ b
written_byte-kept b kept = let low = kept.0 in let other = kept.1 in grind (arith, nat_tests)

written_frame-kept : (frame : List ℕ) → All IsKept frame → map written_byte frame ≡ frame
written_frame-kept [] kept = refl
written_frame-kept (b ∷ bs) kept =
    let one = written_byte-kept b (All-head IsKept b bs kept) in
    let rest = written_frame-kept bs (All-tail IsKept b bs kept) in (λ i. one i ∷ rest i)

written_frames-kept : (frames : List (List ℕ)) → All (All IsKept) frames → map (λ f. map written_byte f) frames ≡ frames
written_frames-kept [] kept = refl
written_frames-kept (f ∷ fs) kept =
    let one = written_frame-kept f (All-head (All IsKept) f fs kept) in
    let rest = written_frames-kept fs (All-tail (All IsKept) f fs kept) in (λ i. one i ∷ rest i)

no_separator : (frame : List ℕ) → All IsKept frame → All (λ b. (b == 59) ≡ false) frame
no_separator frame kept = All-weaker IsKept (λ b. (b == 59) ≡ false) (λ b k. let other = k.1 in grind (arith, nat_tests)) frame kept

split-join : (frames : List (List ℕ)) → 0 < length frames → All (All IsKept) frames → frames_of (join_with_byte 59 frames) ≡ frames
split-join [] some kept = absurd (omega arith)
split-join (f ∷ []) some kept = slice_split_none (λ b. b == 59) f (no_separator f (All-head (All IsKept) f [] kept))
split-join (f ∷ g ∷ fs) some kept =
    slice_split_at (λ b. b == 59) f 59 (join_with_byte 59 (g ∷ fs)) (no_separator f (All-head (All IsKept) f (g ∷ fs) kept)) refl
    ∙ ap (λ rest. f ∷ rest) (split-join (g ∷ fs) (omega arith) (All-tail (All IsKept) f (g ∷ fs) kept))

-- a line without its newline
abbrev pub body_line : Sample → List ℕ
body_line sample = written_stack sample.0 ++ 32 ∷ decimal sample.1

-- what holds of each byte of the frames and of what joins them holds of each byte of the stack
All-join : (P : ℕ → Type 0) (frames : List (List ℕ)) → P 59 → All (All P) frames → All P (join_with_byte 59 frames)
All-join P [] at each = All-nil P
All-join P (f ∷ []) at each = All-head (All P) f [] each
All-join P (f ∷ g ∷ fs) at each =
    All-append P f (59 ∷ join_with_byte 59 (g ∷ fs)) (All-head (All P) f (g ∷ fs) each)
    (All-cons P 59 (join_with_byte 59 (g ∷ fs)) at (All-join P (g ∷ fs) at (All-tail (All P) f (g ∷ fs) each)))

digits-are : (n : ℕ) → n < 2 ^ 64 → All (λ b. 48 ≤ b) (decimal n)
digits-are n small k d within =
    let digit = digit_at (decimal n) k (decimal_is_IsNumeral n small).0.1 within in
    let same = get_or_default (decimal n) k d 0 within in omega arith

high_frames : (frames : List (List ℕ)) → All (All IsKept) frames → All (All (λ b. 32 ≤ b)) frames
high_frames frames kept = All-weaker (All IsKept) (All (λ b. 32 ≤ b)) (λ frame k. All-weaker IsKept (λ b. 32 ≤ b) (λ b h. h.0) frame k) frames kept

body_line-high : (sample : Sample) → All (All IsKept) sample.0 → sample.1 < 2 ^ 64 → All (λ b. 32 ≤ b) (body_line sample)
body_line-high sample kept small =
    All-append (λ b. 32 ≤ b) (written_stack sample.0) (32 ∷ decimal sample.1)
    (rw (written_frames-kept sample.0 kept) (All-join (λ b. 32 ≤ b) sample.0 (omega arith) (high_frames sample.0 kept)))
    (All-cons (λ b. 32 ≤ b) 32 (decimal sample.1) (omega arith) (All-weaker (λ b. 48 ≤ b) (λ b. 32 ≤ b) (λ b h. omega arith) (decimal sample.1) (digits-are sample.1 small)))

-- the values fit, and the names are written as they are
abbrev pub AreWritable : List Sample → Type 0
AreWritable sums = All IsPlain (keys_of sums) × (total_of sums < total_bound)

first_writable : (s : Sample) (ss : List Sample) → AreWritable (s ∷ ss) → IsPlain s.0 × (s.1 < total_bound) × AreWritable ss
first_writable s ss h =
    let all = total-cons s ss in let small = h.1 in
    (All-head IsPlain s.0 (keys_of ss) h.0, omega arith, (All-tail IsPlain s.0 (keys_of ss) h.0, omega arith))

no_newline : (line : List ℕ) → All (λ b. 32 ≤ b) line → All (λ b. (b == 10) ≡ false) line
no_newline line high = All-weaker (λ b. 32 ≤ b) (λ b. (b == 10) ≡ false) (λ b h. grind (arith, nat_tests)) line high

text-cons : (s : Sample) (ss : List Sample) → written_text (s ∷ ss) ≡ body_line s ++ 10 ∷ written_text ss
text-cons s ss = append_assoc (body_line s) (10 ∷ []) (written_text ss)

lines-written : (sums : List Sample) → AreWritable sums → lines_of (written_text sums) ≡ map body_line sums ++ [] ∷ []
lines-written [] h = refl
lines-written (s ∷ ss) h =
    let first = first_writable s ss h in
    ap lines_of (text-cons s ss)
    ∙ slice_split_at (λ b. b == 10) (body_line s) 10 (written_text ss) (no_newline (body_line s) (body_line-high s first.0.kept (let small = first.1 in omega arith))) refl
    ∙ ap (λ rest. body_line s ∷ rest) (lines-written ss first.2)

filled-lines : (sums : List Sample) → filled (map body_line sums ++ [] ∷ []) ≡ map body_line sums
filled-lines [] = refl
filled-lines (s ∷ ss) =
    let rest = filled (map body_line ss ++ [] ∷ []) in
    let count = length-append (written_stack s.0) (32 ∷ decimal s.1) in
    ap (λ b. cond b (body_line s ∷ rest) rest) (has_bytes_test (body_line s) (omega arith)) ∙ ap (λ r. body_line s ∷ r) (filled-lines ss)

says : (s : Sample) → IsPlain s.0 → s.1 < total_bound → IsSample Counted (body_line s) s
says s plain small =
    let numeral = decimal_is_IsNumeral s.1 (omega arith) in
    record {
      text = written_stack s.0;
      says = (
        decimal s.1,
        record { joined = refl; last = All-weaker (λ b. 48 ≤ b) (λ b. b ≢ 32) (λ b h e. omega arith) (decimal s.1) (digits-are s.1 (omega arith)) },
        record { numeral = numeral.0; value = sym numeral.1; bounded = small },
      );
      frames =
          sym (ap (λ frames. frames_of (join_with_byte 59 frames)) (written_frames-kept s.0 plain.kept) ∙ split-join s.0 plain.frames.some plain.kept);
      stack = plain.frames;
    }

all_say : (sums : List Sample) → AreWritable sums → AllZip (IsSample Counted) (map body_line sums) sums
all_say [] h = tt
all_say (s ∷ ss) h = let first = first_writable s ss h in (says s first.0 first.1, all_say ss first.2)

-- ---- adding ascending stacks in turn gives them back

abbrev pub AreBelow : List Sample → List (List ℕ) → Type 0
AreBelow sums stack = AllByRecursion (λ y. stack_cmp y stack ≡ Less) (keys_of sums)

greater_from_below : (x y : List (List ℕ)) → stack_cmp y x ≡ Less → stack_cmp x y ≡ Greater
greater_from_below x y below = stacks_total.antisymm x y ∙ ap ordering_reverse below

lookup-below : (sums : List Sample) (stack : List (List ℕ)) → AreBelow sums stack → lookup (is_at (stack_cmp stack)) sums ≡ None
lookup-below [] stack below = refl
lookup-below (e ∷ es) stack below =
    ap (λ o. cond (is_eq o) (Some e.1) (lookup (is_at (stack_cmp stack)) es)) (greater_from_below stack e.0 below.0) ∙ lookup-below es stack below.1

insert-below : (sums : List Sample) (stack : List (List ℕ)) (value : ℕ) → AreBelow sums stack → insert_entry stack_cmp sums stack value ≡ sums ++ (stack, value) ∷ []
insert-below [] stack value below = refl
insert-below (e ∷ es) stack value below =
    ap (λ o. match_ordering o ((stack, value) ∷ e ∷ es) ((e.0, value) ∷ es) (e ∷ insert_entry stack_cmp es stack value)) (greater_from_below stack e.0 below.0)
    ∙ ap (λ rest. e ∷ rest) (insert-below es stack value below.1)

not_zero : (value : ℕ) → 0 < value → (value == 0) ≡ false
not_zero value some = grind (arith, nat_tests)

added-below : (sums : List Sample) (s : Sample) → AreBelow sums s.0 → 0 < s.1 → add_sample sums s ≡ sums ++ s ∷ []
added-below sums s below some =
    let none : value_of sums s.0 + s.1 ≡ s.1 = let held = ap (λ o. unwrap_or o 0) (lookup-below sums s.0 below) in omega arith in
    ap (λ b. cond b sums (insert_entry stack_cmp sums s.0 (value_of sums s.0 + s.1))) (not_zero s.1 some)
    ∙ ap (insert_entry stack_cmp sums s.0) none ∙ insert-below sums s.0 s.1 below

below_at : (k : List (List ℕ)) (before : List Sample) (s : Sample) (after : List Sample) → AllByRecursion (λ y. stack_cmp k y ≡ Less) (keys_of (before ++ s ∷ after))
    → stack_cmp k s.0 ≡ Less
below_at k [] s after h = h.0
below_at k (e ∷ es) s after h = below_at k es s after h.1

below-append : (before : List Sample) (s : Sample) (after : List Sample) → AreInOrder (before ++ s ∷ after) → AreBelow before s.0
unfolding IsStrictlySortedBy
below-append [] s after sorted = tt
below-append (e ∷ es) s after sorted = (below_at e.0 es s after sorted.0, below-append es s after sorted.1)

sums-again : (before rest : List Sample) → AreInOrder (before ++ rest) → All (λ v. 0 < v) (values_of rest) → fold add_sample before rest ≡ before ++ rest
sums-again before [] sorted some = sym (append-nil before)
sums-again before (s ∷ ss) sorted some =
    ap (λ b. fold add_sample b ss) (added-below before s (below-append before s ss sorted) (All-head (λ v. 0 < v) s.1 (values_of ss) some))
    ∙ sums-again (before ++ s ∷ []) ss (rw append_assoc sorted) (All-tail (λ v. 0 < v) s.1 (values_of ss) some) ∙ append_assoc before (s ∷ []) ss

-- ---- the text is text

IsUtf8-one : (c : ℕ) → c < 128 → IsUtf8 (c ∷ [])
IsUtf8-one c low = IsUtf8-from_ascii (c ∷ []) (one_ascii c low) where
  one_ascii : (d : ℕ) → d < 128 → (i : ℕ) → get_or (d ∷ []) i 0 < 128
  one_ascii d small zero = small
  one_ascii d small (suc i) = omega arith

IsUtf8-join : (frames : List (List ℕ)) → All IsUtf8 frames → IsUtf8 (join_with_byte 59 frames)
IsUtf8-join [] each = IsUtf8-nil
IsUtf8-join (f ∷ []) each = All-head IsUtf8 f [] each
IsUtf8-join (f ∷ g ∷ fs) each =
    IsUtf8-append f (59 ∷ join_with_byte 59 (g ∷ fs)) (All-head IsUtf8 f (g ∷ fs) each)
    (IsUtf8-append (59 ∷ []) (join_with_byte 59 (g ∷ fs)) (IsUtf8-one 59 (lit< tt)) (IsUtf8-join (g ∷ fs) (All-tail IsUtf8 f (g ∷ fs) each)))

IsUtf8-line : (s : Sample) → IsPlain s.0 → s.1 < total_bound → IsUtf8 (written_line s)
IsUtf8-line s plain small =
    IsUtf8-append (body_line s) (10 ∷ [])
    (IsUtf8-append (written_stack s.0) (32 ∷ decimal s.1) (rw (written_frames-kept s.0 plain.kept) (IsUtf8-join s.0 plain.utf8))
    (IsUtf8-append (32 ∷ []) (decimal s.1) (IsUtf8-one 32 (lit< tt)) (IsUtf8-from_ascii (decimal s.1) (IsAscii-decimal s.1 (omega arith)))))
    (IsUtf8-one 10 (lit< tt))

IsUtf8-text : (sums : List Sample) → AreWritable sums → IsUtf8 (written_text sums)
IsUtf8-text [] h = IsUtf8-nil
IsUtf8-text (s ∷ ss) h =
    let first = first_writable s ss h in
    IsUtf8-append (written_line s) (written_text ss) (IsUtf8-line s first.0 first.1) (IsUtf8-text ss first.2)

text-printable : (sums : List Sample) → AreWritable sums → All (λ b. b ≢ 31) (written_text sums)
text-printable [] h = All-nil (λ b. b ≢ 31)
text-printable (s ∷ ss) h =
    let first = first_writable s ss h in
    rw (text-cons s ss)
    (All-append (λ b. b ≢ 31) (body_line s) (10 ∷ written_text ss)
    (All-weaker (λ b. 32 ≤ b) (λ b. b ≢ 31) (λ b high e. omega arith) (body_line s) (body_line-high s first.0.kept (let small = first.1 in omega arith)))
    (All-cons (λ b. b ≢ 31) 10 (written_text ss) (λ e. omega arith) (text-printable ss first.2)))

not_both : (b c : Bool) → b ≡ false → (b && c) ≡ true → ⊥
not_both true c fails both = let differ : true ≡ false = fails in cc
not_both false c fails both = let differ : false ≡ true = both in cc

not_31 : (b : ℕ) → b ≢ 31 → nat_eq 31 b ≡ false
not_31 b other = grind (arith, nat_tests)

not_gzip : (body : List ℕ) → All (λ b. b ≢ 31) body → IsGzip body → ⊥
not_gzip [] none begins = let differ : false ≡ true = begins in cc
not_gzip (b ∷ bs) none begins = not_both (nat_eq 31 b) _ (not_31 b (All-head (λ x. x ≢ 31) b bs none)) begins

pub read_back : (sums : List Sample) → IsReadBack sums
read_back sums are plain =
    let writable : AreWritable sums = (plain, are.bounded) in (
      record { plain = not_gzip (written_text sums) (text-printable sums writable); utf8 = IsUtf8-text sums writable },
      record {
        samples = sums;
        said = record { each = rw (lines-written sums writable, filled-lines sums) (all_say sums writable); bounded = are.bounded };
        summed = sym (sums-again [] sums are.ascending are.positive);
      },
    )
