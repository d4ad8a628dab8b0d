-- Two files are told apart by their bytes at the first field in which they differ.
use Rattle.std.proofs.Common.{◌≡◌, ◌&&◌, ℕ, ◌+◌, ◌-◌, ◌<◌, ◌^◌, Bool, true, List, [], ◌∷◌, ◌++◌, length, drop, Option, None, refl, subst, sym, ap, ◌∙◌, arith}
use Rattle.std.specs.Prelude.{nat_le, nat_lt, not}
use Rattle.std.specs.List.{list_all}
use Rattle.std.specs.Option.{is_none}
use Rattle.std.specs.Ordering.{is_lt}
use Rattle.profile_model.specs.Kinds.{is_colon}
use Rattle.profile_model.specs.TenantPlaces.{wrong_place}
use Rattle.std.proofs.lemmas.Bool.{eqb-true, ltb-true}
use Rattle.std.proofs.lemmas.List.{append_assoc, append-nil}
use Rattle.profile_model.specs.LabelSets.{Label, is_label_name}
use Rattle.profile_model.specs.Stacks.{name_cmp, stack_cmp}
use Rattle.profile_model.specs.Sums.{Sample, total_of}
use Rattle.segment_file.specs.declared.fault.ObjectRule.{ObjectRule}
use Rattle.segment_file.specs.declared.fault.ObjectRule.TheVariants as objects
use Rattle.segment_file.specs.Fields.{Field, Fit, each_of, listed, number, text_of, unless}
use Rattle.segment_file.specs.Files.{File, IsFile, file_fields, frame_fields, is_frame, label_fields, labels_fields, mark_field, profile_fields, push_fields, sample_fields, stack_fields, value_field}
use Rattle.segment_file.proofs.SpellingLemmas.{Fit-append, eight_once, four_once, front_once, text_once}
use Rattle.segment_file.proofs.FileLemmas.{behind_labels, first_fits, nth_fits, others_fit}

-- bytes that begin with either field begin with one field
abbrev pub AreOne : Field → Field → Type 0
AreOne field other = (rest more : List ℕ) → field.bytes ++ rest ≡ other.bytes ++ more → field ≡ other

-- as many fields, and so it is of the first two that aren't the same
abbrev pub AreTwins : List Field → List Field → Type 0
AreTwins [] [] = Unit {0}
AreTwins [] (other ∷ others) = ⊥
AreTwins (field ∷ fields) [] = ⊥
AreTwins (field ∷ fields) (other ∷ others) = AreOne field other × (field ≡ other → AreTwins fields others)

twins-text : (judge : List ℕ → Bool) (text other : List ℕ) (fields others : List Field) → length text < 256 ^ 4 → length other < 256 ^ 4
    → (text ≡ other → AreTwins fields others) → AreTwins (text_of text (judge text) ∷ fields) (text_of other (judge other) ∷ others)
twins-text judge text other fields others low within later = (
  λ rest more same. ap (λ (t : List ℕ). text_of t (judge t)) (text_once text other rest more low within same).0,
  λ is. later (text_once text other [] [] low within (ap (λ (field : Field). field.bytes ++ []) is)).0,
)

twins-four : (judge : ℕ → Option ObjectRule) (m n : ℕ) (fields others : List Field) → m < 256 ^ 4 → n < 256 ^ 4
    → (m ≡ n → AreTwins fields others) → AreTwins (number 4 m (judge m) ∷ fields) (number 4 n (judge n) ∷ others)
twins-four judge m n fields others low within later = (
  λ rest more same. ap (λ (k : ℕ). number 4 k (judge k)) (four_once m n rest more low within same).0,
  λ is. later (four_once m n [] [] low within (ap (λ (field : Field). field.bytes ++ []) is)).0,
)

twins-eight : (judge : ℕ → Option ObjectRule) (m n : ℕ) (fields others : List Field) → m < 256 ^ 8 → n < 256 ^ 8
    → (m ≡ n → AreTwins fields others) → AreTwins (number 8 m (judge m) ∷ fields) (number 8 n (judge n) ∷ others)
twins-eight judge m n fields others low within later = (
  λ rest more same. ap (λ (k : ℕ). number 8 k (judge k)) (eight_once m n rest more low within same).0,
  λ is. later (eight_once m n [] [] low within (ap (λ (field : Field). field.bytes ++ []) is)).0,
)

-- the fields of two values, whatever follows
abbrev pub TellApart : {A : Type 0} → (A → List Field) → Type 0
TellApart {A} fields =
    (item other : A) (rest more : List Field) → Fit (fields item) → Fit (fields other) → (item ≡ other → AreTwins rest more)
    → AreTwins (fields item ++ rest) (fields other ++ more)

twins-append : (a b c d rest more : List Field) → AreTwins (a ++ (b ++ rest)) (c ++ (d ++ more)) → AreTwins ((a ++ b) ++ rest) ((c ++ d) ++ more)
twins-append a b c d rest more twins =
    subst (λ (l : List Field). AreTwins l ((c ++ d) ++ more)) (sym (append_assoc a b rest))
    (subst (λ (l : List Field). AreTwins (a ++ (b ++ rest)) l) (sym (append_assoc c d more)) twins)

each_twins : {A : Type 0} (fields : List A → A → List Field) → ((before : List A) → TellApart (fields before)) → (before items others : List A) (rest more : List Field)
    → length items ≡ length others → Fit (each_of fields before items) → Fit (each_of fields before others)
    → (items ≡ others → AreTwins rest more) → AreTwins (each_of fields before items ++ rest) (each_of fields before others ++ more)
each_twins fields tell before [] [] rest more long fit fits later = later refl
each_twins fields tell before [] (other ∷ others) rest more long fit fits later = absurd (omega arith)
each_twins fields tell before (item ∷ items) [] rest more long fit fits later = absurd (omega arith)
each_twins {A} fields tell before (item ∷ items) (other ∷ others) rest more long fit fits later =
    let mine = Fit-append (fields before item) (each_of fields (before ++ item ∷ []) items) fit in
    let theirs = Fit-append (fields before other) (each_of fields (before ++ other ∷ []) others) fits in
    twins-append (fields before item) (each_of fields (before ++ item ∷ []) items) (fields before other) (each_of fields (before ++ other ∷ []) others) rest more
    (tell before item other (each_of fields (before ++ item ∷ []) items ++ rest) (each_of fields (before ++ other ∷ []) others ++ more) mine.0 theirs.0
    (λ is. subst (λ (x : A). AreTwins (each_of fields (before ++ item ∷ []) items ++ rest) (each_of fields (before ++ x ∷ []) others ++ more)) is
    (each_twins fields tell (before ++ item ∷ []) items others rest more (omega (arith, long)) mine.1
    (subst (λ (x : A). Fit (each_of fields (before ++ x ∷ []) others)) (sym is) theirs.1)
    (λ same. later (λ i. is i ∷ same i)))))

listed_twins : {A : Type 0} (few : ℕ → Bool) (fields : List A → A → List Field) → ((before : List A) → TellApart (fields before))
    → TellApart (λ (items : List A). listed (few (length items)) fields items)
listed_twins {A} few fields tell items others rest more fit fits later =
    let a = listed (few (length items)) fields items in
    let b = listed (few (length others)) fields others in
    twins-four (λ n. unless (few n) objects.Content) (length items) (length others) (each_of fields [] items ++ rest) (each_of fields [] others ++ more)
    (ltb-true _ _ (first_fits a fit)) (ltb-true _ _ (first_fits b fits))
    (λ long. each_twins fields tell [] items others rest more long (others_fit 1 a fit) (others_fit 1 b fits) later)

label_twins : (before : List Label) → TellApart (label_fields before)
label_twins before label other rest more fit fits later =
    let a = label_fields before label in
    let b = label_fields before other in
    twins-text (λ name. is_label_name name && list_all (λ earlier. is_lt (name_cmp earlier.0 name)) before) label.0 other.0 (drop 1 a ++ rest) (drop 1 b ++ more)
    (ltb-true _ _ (nth_fits 0 a fit)) (ltb-true _ _ (nth_fits 0 b fits))
    (λ name. twins-text (λ value. nat_lt 0 (length value) && nat_le (length value) 2048) label.1 other.1 rest more (ltb-true _ _ (nth_fits 1 a fit)) (ltb-true _ _ (nth_fits 1 b fits))
    (λ value. later (λ i. (name i, value i))))

frame_twins : (ordered : List (List ℕ) → Bool) (frames others : List (List ℕ)) (rest more : List Field) → length frames ≡ length others
    → Fit (frame_fields (ordered frames) frames) → Fit (frame_fields (ordered others) others) → (frames ≡ others → AreTwins rest more)
    → AreTwins (frame_fields (ordered frames) frames ++ rest) (frame_fields (ordered others) others ++ more)
frame_twins ordered [] [] rest more long fit fits later = later refl
frame_twins ordered [] (y ∷ ys) rest more long fit fits later = absurd (omega arith)
frame_twins ordered (x ∷ xs) [] rest more long fit fits later = absurd (omega arith)
frame_twins ordered (x ∷ []) (y ∷ []) rest more long fit fits later =
    twins-text (λ frame. is_frame frame && ordered (frame ∷ [])) x y rest more
    (ltb-true _ _ (first_fits (frame_fields (ordered (x ∷ [])) (x ∷ [])) fit)) (ltb-true _ _ (first_fits (frame_fields (ordered (y ∷ [])) (y ∷ [])) fits))
    (λ same. later (λ i. same i ∷ []))
frame_twins ordered (x ∷ []) (y ∷ z ∷ ys) rest more long fit fits later = absurd (omega (arith, long))
frame_twins ordered (x ∷ z ∷ xs) (y ∷ []) rest more long fit fits later = absurd (omega (arith, long))
frame_twins ordered (x ∷ v ∷ xs) (y ∷ w ∷ ys) rest more long fit fits later =
    let a = frame_fields (ordered (x ∷ v ∷ xs)) (x ∷ v ∷ xs) in
    let b = frame_fields (ordered (y ∷ w ∷ ys)) (y ∷ w ∷ ys) in
    twins-text is_frame x y (drop 1 a ++ rest) (drop 1 b ++ more) (ltb-true _ _ (first_fits a fit)) (ltb-true _ _ (first_fits b fits))
    (λ same. subst (λ (z : List ℕ). AreTwins (drop 1 a ++ rest) (frame_fields (ordered (z ∷ w ∷ ys)) (w ∷ ys) ++ more)) same
    (frame_twins (λ deeper. ordered (x ∷ deeper)) (v ∷ xs) (w ∷ ys) rest more (omega (arith, long)) (others_fit 1 a fit)
    (subst (λ (z : List ℕ). Fit (frame_fields (ordered (z ∷ w ∷ ys)) (w ∷ ys))) (sym same) (others_fit 1 b fits))
    (λ deeper. later (λ i. same i ∷ deeper i))))

sample_twins : (before : List Sample) → TellApart (sample_fields before)
sample_twins before sample other rest more fit fits later =
    let value = value_field before sample.1 ∷ [] in
    let worth = value_field before other.1 ∷ [] in
    let a = stack_fields before sample.0 in
    let b = stack_fields before other.0 in
    let mine = Fit-append a value fit in
    let theirs = Fit-append b worth fits in
    twins-append a value b worth rest more
    (twins-four (λ n. unless (nat_lt 0 n && nat_le n 1024) objects.Content) (length sample.0) (length other.0) (drop 1 a ++ (value ++ rest)) (drop 1 b ++ (worth ++ more))
    (ltb-true _ _ (first_fits a mine.0)) (ltb-true _ _ (first_fits b theirs.0))
    (λ long. frame_twins (λ stack. list_all (λ earlier. is_lt (stack_cmp earlier.0 stack)) before) sample.0 other.0 (value ++ rest) (worth ++ more) long (others_fit 1 a mine.0) (others_fit 1 b theirs.0)
    (λ stack. twins-eight (λ n. unless (nat_lt 0 n && nat_lt (total_of before + n) (2 ^ 63)) objects.Content) sample.1 other.1 rest more
    (ltb-true _ _ (first_fits value mine.1)) (ltb-true _ _ (first_fits worth theirs.1))
    (λ counted. later (λ i. (stack i, counted i))))))

abbrev is_part : List ℕ → Bool
is_part part = list_all (λ b. not (is_colon b)) part

profile_twins : TellApart profile_fields
profile_twins profile other rest more fit fits later =
    let a = behind_labels profile in
    let b = behind_labels other in
    let mine = Fit-append (labels_fields profile.labels) a fit in
    let theirs = Fit-append (labels_fields other.labels) b fits in
    twins-append (labels_fields profile.labels) a (labels_fields other.labels) b rest more
    (listed_twins (λ n. nat_le n 31) label_fields label_twins profile.labels other.labels (a ++ rest) (b ++ more) mine.0 theirs.0
    (λ labels. twins-text is_part profile.name other.name (drop 1 a ++ rest) (drop 1 b ++ more) (ltb-true _ _ (nth_fits 0 a mine.1)) (ltb-true _ _ (nth_fits 0 b theirs.1))
    (λ name. twins-text is_part profile.sample_type other.sample_type (drop 2 a ++ rest) (drop 2 b ++ more) (ltb-true _ _ (nth_fits 1 a mine.1)) (ltb-true _ _ (nth_fits 1 b theirs.1))
    (λ sample_type. twins-text is_part profile.sample_unit other.sample_unit (drop 3 a ++ rest) (drop 3 b ++ more) (ltb-true _ _ (nth_fits 2 a mine.1)) (ltb-true _ _ (nth_fits 2 b theirs.1))
    (λ sample_unit. twins-text is_part profile.period_type other.period_type (drop 4 a ++ rest) (drop 4 b ++ more) (ltb-true _ _ (nth_fits 3 a mine.1)) (ltb-true _ _ (nth_fits 3 b theirs.1))
    (λ period_type. twins-text is_part profile.period_unit other.period_unit (drop 5 a ++ rest) (drop 5 b ++ more) (ltb-true _ _ (nth_fits 4 a mine.1)) (ltb-true _ _ (nth_fits 4 b theirs.1))
    (λ period_unit. twins-eight (λ n. None) profile.time_ms other.time_ms (drop 6 a ++ rest) (drop 6 b ++ more) (ltb-true _ _ (nth_fits 5 a mine.1)) (ltb-true _ _ (nth_fits 5 b theirs.1))
    (λ time. listed_twins (λ n. true) sample_fields sample_twins profile.values other.values rest more (others_fit 6 a mine.1) (others_fit 6 b theirs.1)
    (λ values. later (λ i. record {
      labels = labels i;
      name = name i;
      sample_type = sample_type i;
      sample_unit = sample_unit i;
      period_type = period_type i;
      period_unit = period_unit i;
      time_ms = time i;
      values = values i;
    }))))))))))

push_twins : TellApart push_fields
push_twins push other rest more fit fits later =
    let a = push_fields push in
    let b = push_fields other in
    twins-text (λ tenant. is_none (wrong_place tenant)) push.tenant other.tenant (drop 1 a ++ rest) (drop 1 b ++ more) (ltb-true _ _ (first_fits a fit)) (ltb-true _ _ (first_fits b fits))
    (λ tenant. listed_twins (λ n. nat_le n 4096) (λ before profile. profile_fields profile) (λ before. profile_twins) push.profiles other.profiles rest more (others_fit 1 a fit) (others_fit 1 b fits)
    (λ profiles. later (λ i. record { tenant = tenant i; profiles = profiles i })))

-- two files are told apart at the first field in which they differ
pub file_twins : (file other : File) → IsFile file → IsFile other → AreTwins (file_fields file) (file_fields other)
file_twins file other is also =
    let a = file_fields file in
    let b = file_fields other in
    let long = eqb-true (length file.mark) 4 (nth_fits 0 a is.fit) ∙ sym (eqb-true (length other.mark) 4 (nth_fits 0 b also.fit)) in (
      λ rest more same. ap mark_field (front_once file.mark other.mark rest more long same).0,
      λ mark. twins-eight (λ n. None) file.lo other.lo (drop 2 a) (drop 2 b) (ltb-true _ _ (nth_fits 1 a is.fit)) (ltb-true _ _ (nth_fits 1 b also.fit))
          (λ lo. subst (λ (n : ℕ). AreTwins (drop 2 a) (number 8 other.hi (unless (nat_lt n other.hi) objects.Form) ∷ drop 3 b)) lo
          (twins-eight (λ n. unless (nat_lt file.lo n) objects.Form) file.hi other.hi (drop 3 a) (drop 3 b) (ltb-true _ _ (nth_fits 2 a is.fit)) (ltb-true _ _ (nth_fits 2 b also.fit))
          (λ hi. let count : length file.pushes ≡ length other.pushes = is.count ∙ ap (λ (n : ℕ). n - file.lo) hi ∙ ap (λ (n : ℕ). other.hi - n) lo ∙ sym also.count in
          subst (λ (l : List Field). AreTwins l (drop 3 b)) (append-nil (drop 3 a))
          (subst (λ (l : List Field). AreTwins (drop 3 a ++ []) l) (append-nil (drop 3 b))
          (each_twins (λ before push. push_fields push) (λ before. push_twins) [] file.pushes other.pushes [] [] count (others_fit 3 a is.fit) (others_fit 3 b also.fit)
          (λ pushes. tt)))))),
    )
