-- What was taken and where a reader stopped, one thing after another.
use Rattle.std.proofs.Common.{◌≡◌, ◌⊎◌, inl, inr, ℕ, suc, zero, ◌+◌, ◌-◌, ◌<◌, ◌^◌, Bool, true, false, List, [], ◌∷◌, ◌++◌, length, Some, None, Result, Ok, Err, refl, subst, sym, ap, ◌∙◌, arith}
use Rattle.std.specs.Prelude.{MatchResult, Option}
use Rattle.std.specs.List.{list_all}
use Rattle.std.specs.Option.{is_none}
use Rattle.std.specs.Str.{is_utf8}
use Rattle.std.proofs.lemmas.Bool.{and_from, and_parts, lt-ltb}
use Rattle.std.proofs.lemmas.Grind.{flat_map-append}
use Rattle.std.proofs.lemmas.List.{append_assoc, append-nil, length-append}
use Rattle.std.proofs.lemmas.List.Folds.{list_all-append}
use Rattle.faults.specs.Answers.{IfFault}
use Rattle.faults.specs.declared.refused.Refused.{Refused}
use Rattle.segment_file.specs.declared.fault.ObjectFault.{ObjectFault}
use Rattle.segment_file.specs.declared.fault.ObjectRule.{ObjectRule}
use Rattle.segment_file.specs.declared.fault.ObjectRule.TheVariants.{Content, Form}
use Rattle.segment_file.specs.Fields.{AreSound, Field, Fit, each_of, number, spelled, unless}
use Rattle.segment_file.specs.ReadFields.{IsFieldRead, alone, count_field, judged, list_fields}
use Rattle.segment_file.specs.Reading.{Begins, BeginsCounted, CursorView, IsContentAt, IsCut, IsCutHere, IsWhole, IsWrongHere, Passes, Spelling, Stopped, Took, is_kept, numbers, texts}
use Rattle.segment_file.proofs.ReadAnswers.{weaker}

-- ---- one after another

pub fit_append : (fields others : List Field) → Fit fields → Fit others → Fit (fields ++ others)
fit_append fields others fit also =
    list_all-append (λ (f : Field). f.fits) fields others ∙ and_from (list_all (λ (f : Field). f.fits) fields) (list_all (λ (f : Field). f.fits) others) fit also

pub sound_both : (fields others : List Field) → AreSound fields → AreSound others → AreSound (fields ++ others)
sound_both fields others sound also =
    list_all-append (λ (f : Field). is_none f.breaks) fields others ∙ and_from (list_all (λ (f : Field). is_none f.breaks) fields) (list_all (λ (f : Field). is_none f.breaks) others) sound also

pub spelled-append : (fields others : List Field) → spelled (fields ++ others) ≡ spelled fields ++ spelled others
spelled-append fields others = flat_map-append (λ (f : Field). f.bytes) fields others

pub took_nothing : (c : CursorView) → Took [] c c
took_nothing c = record { fit = refl; sound = refl; passes = record { bytes_are = refl; place = omega arith } }

pub took_both : (fields others : List Field) (p q r : CursorView) → Took fields p q → Took others q r → Took (fields ++ others) p r
took_both fields others p q r first second = record {
  fit = fit_append fields others first.fit second.fit;
  sound = sound_both fields others first.sound second.sound;
  passes = record {
    bytes_are =
        first.passes.bytes_are ∙ ap (λ (l : List ℕ). spelled fields ++ l) second.passes.bytes_are ∙ sym (append_assoc (spelled fields) (spelled others) r.rest)
        ∙ ap (λ (l : List ℕ). l ++ r.rest) (sym (spelled-append fields others));
    place =
        let long = ap length (spelled-append fields others) ∙ length-append (spelled fields) (spelled others) in
        omega (arith, first.passes.place, second.passes.place, long);
  };
}

-- ---- where a reader stopped

here_behind : (front before : List Field) (field : Field) (p q : CursorView) (rest : List ℕ) (fault : ObjectFault) → Passes (spelled front) p q
    → (IsWrongHere field rest fault.rule × (fault.at ≡ q.at + length (spelled before))) ⊎ (IsCutHere field rest × (fault.rule ≡ Form) × (fault.at ≡ q.at + length q.rest))
    → (IsWrongHere field rest fault.rule × (fault.at ≡ p.at + length (spelled (front ++ before)))) ⊎ (IsCutHere field rest × (fault.rule ≡ Form) × (fault.at ≡ p.at + length p.rest))
here_behind front before field p q rest fault passes (inl w) =
    let long = ap length (spelled-append front before) ∙ length-append (spelled front) (spelled before) in
    inl (w.0, omega (arith, w.1, passes.place, long))
here_behind front before field p q rest fault passes (inr c) =
    let long = ap length passes.bytes_are ∙ length-append (spelled front) q.rest in
    inr (c.0, c.1, omega (arith, c.2, passes.place, long))

-- behind what was taken
pub stopped_behind : (May Might : List Field → Type 0) (front : List Field) (p q : CursorView) (fault : ObjectFault) → Took front p q
    → ((fields : List Field) → May fields → Might (front ++ fields)) → Stopped May q fault → Stopped Might p fault
stopped_behind May Might front p q fault took may s = record {
  before = front ++ s.before;
  field = s.field;
  may = subst Might (sym (append_assoc front s.before (s.field ∷ []))) (may (s.before ++ s.field ∷ []) s.may);
  sound = sound_both front s.before took.sound s.sound;
  rest = s.rest;
  bytes_are =
      took.passes.bytes_are ∙ ap (λ (l : List ℕ). spelled front ++ l) s.bytes_are ∙ sym (append_assoc (spelled front) (spelled s.before) s.rest)
      ∙ ap (λ (l : List ℕ). l ++ s.rest) (sym (spelled-append front s.before));
  here = here_behind front s.before s.field p q s.rest fault took.passes s.here;
}

-- at the front of something larger
pub stopped_in : (May Might : List Field → Type 0) (c : CursorView) (fault : ObjectFault)
    → ((fields : List Field) → May fields → Might fields) → Stopped May c fault → Stopped Might c fault
stopped_in May Might c fault may s = record {
  before = s.before;
  field = s.field;
  may = may (s.before ++ s.field ∷ []) s.may;
  sound = s.sound;
  rest = s.rest;
  bytes_are = s.bytes_are;
  here = s.here;
}

-- ---- one field

-- a field for each value, with its spelling
pub record IsFieldOf {A : Type 0} (form : Spelling A) (field : A → Field) : Type 0 where
  pub bytes : (item : A) → (field item).bytes ≡ form.written item
  pub fits : (item : A) → form.Fits item → (field item).fits ≡ true

begins_alone : {A : Type 0} (form : Spelling A) (field : A → Field) → IsFieldOf form field → (item : A) → form.Fits item → Begins (λ item. field item ∷ []) (field item ∷ [])
begins_alone form field is item fits = record {
  whole = item;
  fit = and_from (field item).fits true (is.fits item fits) refl;
  behind = [];
  are = refl;
}

pub cut_field : {A : Type 0} (form : Spelling A) (field : A → Field) (c : CursorView) (fault : ObjectFault) → IsFieldOf form field → IsCut form c fault
    → Stopped (Begins (λ item. field item ∷ [])) c fault
cut_field form field c fault is cut = record {
  before = [];
  field = field cut.item;
  may = begins_alone form field is cut.item cut.fits;
  sound = refl;
  rest = c.rest;
  bytes_are = refl;
  here = inr (record { missing = cut.missing; part = is.bytes cut.item ∙ cut.part; some = cut.some }, cut.rule, cut.place);
}

pub wrong_field : {A : Type 0} (form : Spelling A) (field : A → Field) (p q : CursorView) (item : A) (fault : ObjectFault) → IsFieldOf form field → IsWhole form p q item
    → (field item).breaks ≡ Some fault.rule → fault.at ≡ p.at → Stopped (Begins (λ item. field item ∷ [])) p fault
wrong_field form field p q item fault is whole wrong place = record {
  before = [];
  field = field item;
  may = begins_alone form field is item whole.fits;
  sound = refl;
  rest = p.rest;
  bytes_are = refl;
  here = inl (record { more = q.rest; whole = whole.passes.bytes_are ∙ ap (λ (l : List ℕ). l ++ q.rest) (sym (is.bytes item)); wrong = wrong }, omega (arith, place));
}

pub right_field : {A : Type 0} (form : Spelling A) (field : A → Field) (p q : CursorView) (item : A) → IsFieldOf form field → IsWhole form p q item
    → (field item).breaks ≡ None → Took (field item ∷ []) p q
right_field form field p q item is whole right =
    let alone = append-nil (field item).bytes ∙ is.bytes item in record {
      fit = and_from (field item).fits true (is.fits item whole.fits) refl;
      sound = and_from (is_none (field item).breaks) true (ap is_none right) refl;
      passes = record {
        bytes_are = whole.passes.bytes_are ∙ ap (λ (l : List ℕ). l ++ q.rest) (sym alone);
        place = omega (arith, whole.passes.place, ap length alone);
      };
    }

-- ---- lists

pub each_of-append : {A : Type 0} (fields : List A → A → List Field) (before items others : List A)
    → each_of fields before (items ++ others) ≡ each_of fields before items ++ each_of fields (before ++ items) others
each_of-append {A} fields before [] others = ap (λ (l : List A). each_of fields l others) (sym (append-nil before))
each_of-append {A} fields before (item ∷ items) others =
    ap (λ (l : List Field). fields before item ++ l)
    (each_of-append fields (before ++ item ∷ []) items others
    ∙ ap (λ (l : List A). each_of fields (before ++ item ∷ []) items ++ each_of fields l others) (append_assoc before (item ∷ []) items))
    ∙ sym (append_assoc (fields before item) (each_of fields (before ++ item ∷ []) items) (each_of fields (before ++ item ∷ items) others))

-- one item more
pub took_item : {A : Type 0} (fields : List A → A → List Field) (before : List A) (item : A) (p q r : CursorView)
    → Took (each_of fields [] before) p q → Took (fields before item) q r → Took (each_of fields [] (before ++ item ∷ [])) p r
took_item fields before item p q r first next =
    subst (λ (l : List Field). Took l p r)
    (ap (λ (l : List Field). each_of fields [] before ++ l) (sym (append-nil (fields before item))) ∙ sym (each_of-append fields [] before (item ∷ [])))
    (took_both (each_of fields [] before) (fields before item) p q r first next)

-- the same item so many times
abbrev pub fillers : {A : Type 0} → A → ℕ → List A
fillers filler zero = []
fillers filler (suc n) = filler ∷ fillers filler n

pub length-fillers : {A : Type 0} (filler : A) (n : ℕ) → length (fillers filler n) ≡ n
length-fillers filler zero = refl
length-fillers filler (suc n) = ap suc (length-fillers filler n)

pub fillers_fit : {A : Type 0} (fields : List A → A → List Field) (filler : A) → ((before : List A) → Fit (fields before filler))
    → (before : List A) (n : ℕ) → Fit (each_of fields before (fillers filler n))
fillers_fit fields filler fits before zero = refl
fillers_fit fields filler fits before (suc n) =
    fit_append (fields before filler) (each_of fields (before ++ filler ∷ []) (fillers filler n)) (fits before) (fillers_fit fields filler fits (before ++ filler ∷ []) n)

-- what stands where one item's fields begin, those before it taken, may begin so many items
begins_item : {A : Type 0} (fields : List A → A → List Field) (filler : A) → ((before : List A) → Fit (fields before filler))
    → (count later : ℕ) (before : List A) → length before + suc later ≡ count → Fit (each_of fields [] before)
    → (front : List Field) → Begins (fields before) front → BeginsCounted count fields (each_of fields [] before ++ front)
begins_item {A} fields filler fits count later before short fit front b =
    let rest = each_of fields (before ++ b.whole ∷ []) (fillers filler later) in
    let all = each_of fields [] before in record {
      items = before ++ b.whole ∷ fillers filler later;
      counted = length-append before (b.whole ∷ fillers filler later) ∙ omega (arith, length-fillers filler later, short);
      fit =
          subst Fit (sym (each_of-append fields [] before (b.whole ∷ fillers filler later)))
          (fit_append all (fields before b.whole ++ rest) fit (fit_append (fields before b.whole) rest b.fit (fillers_fit fields filler fits (before ++ b.whole ∷ []) later)));
      behind = b.behind ++ rest;
      are =
          each_of-append fields [] before (b.whole ∷ fillers filler later) ∙ ap (λ (l : List Field). all ++ (l ++ rest)) b.are
          ∙ ap (λ (l : List Field). all ++ l) (append_assoc front b.behind rest) ∙ sym (append_assoc all front (b.behind ++ rest));
    }

-- inside an item
pub stopped_item : {A : Type 0} (fields : List A → A → List Field) (filler : A) → ((before : List A) → Fit (fields before filler))
    → (count : ℕ) (before : List A) → length before < count → (p q : CursorView) (fault : ObjectFault)
    → Took (each_of fields [] before) p q → Stopped (Begins (fields before)) q fault → Stopped (BeginsCounted count fields) p fault
stopped_item fields filler fits count before short p q fault took s =
    stopped_behind (Begins (fields before)) (BeginsCounted count fields) (each_of fields [] before) p q fault took
    (begins_item fields filler fits count (count - length before - 1) before (omega (arith, short)) took.fit) s

-- ---- a list and its count

pub number_field : (size : ℕ) (judge : ℕ → Option ObjectRule) → IsFieldOf (numbers size) (λ n. number size n (judge n))
number_field size judge = record { bytes = λ n. refl; fits = λ n fits. lt-ltb n (256 ^ size) fits }

begins_count : {A : Type 0} (few : ℕ → Bool) (fields : List A → A → List Field) (filler : A) → ((before : List A) → Fit (fields before filler))
    → (front : List Field) → Begins (λ n. count_field few n ∷ []) front → Begins (list_fields few fields) front
begins_count few fields filler fits front b =
    let items = fillers filler b.whole in
    let long = length-fillers filler b.whole in
    let rest = each_of fields [] items in record {
      whole = items;
      fit = fit_append (count_field few (length items) ∷ []) rest (subst (λ (n : ℕ). Fit (count_field few n ∷ [])) (sym long) b.fit) (fillers_fit fields filler fits [] b.whole);
      behind = b.behind ++ rest;
      are = ap (λ (n : ℕ). count_field few n ∷ rest) long ∙ ap (λ (l : List Field). l ++ rest) b.are ∙ append_assoc front b.behind rest;
    }

-- at the count
pub stopped_count : {A : Type 0} (few : ℕ → Bool) (fields : List A → A → List Field) (filler : A) → ((before : List A) → Fit (fields before filler))
    → (c : CursorView) (fault : ObjectFault) → Stopped (Begins (λ n. count_field few n ∷ [])) c fault → Stopped (Begins (list_fields few fields)) c fault
stopped_count few fields filler fits c fault s =
    stopped_in (Begins (λ n. count_field few n ∷ [])) (Begins (list_fields few fields)) c fault (begins_count few fields filler fits) s

begins_list : {A : Type 0} (few : ℕ → Bool) (fields : List A → A → List Field) (count : ℕ) → Fit (count_field few count ∷ [])
    → (front : List Field) → BeginsCounted count fields front → Begins (list_fields few fields) (count_field few count ∷ front)
begins_list few fields count fit front b = record {
  whole = b.items;
  fit = fit_append (count_field few (length b.items) ∷ []) (each_of fields [] b.items) (subst (λ (n : ℕ). Fit (count_field few n ∷ [])) (sym b.counted) fit) b.fit;
  behind = b.behind;
  are = ap (λ (n : ℕ). count_field few n ∷ each_of fields [] b.items) b.counted ∙ ap (λ (l : List Field). count_field few count ∷ l) b.are;
}

-- behind the count
pub stopped_list : {A : Type 0} (few : ℕ → Bool) (fields : List A → A → List Field) (count : ℕ) (p q : CursorView) (fault : ObjectFault)
    → Took (count_field few count ∷ []) p q → Stopped (BeginsCounted count fields) q fault → Stopped (Begins (list_fields few fields)) p fault
stopped_list few fields count p q fault took s =
    stopped_behind (BeginsCounted count fields) (Begins (list_fields few fields)) (count_field few count ∷ []) p q fault took
    (begins_list few fields count took.fit) s

pub took_list : {A : Type 0} (few : ℕ → Bool) (fields : List A → A → List Field) (items : List A) (p q r : CursorView)
    → Took (count_field few (length items) ∷ []) p q → Took (each_of fields [] items) q r → Took (list_fields few fields items) p r
took_list few fields items p q r first next = took_both (count_field few (length items) ∷ []) (each_of fields [] items) p q r first next

-- ---- fields by their rules

pub text_field : (judge : List ℕ → Bool) → IsFieldOf texts (judged judge)
text_field judge = record { bytes = λ text. refl; fits = λ text fits. lt-ltb (length text) (256 ^ 4) fits }

right : (kept : Bool) (rule : ObjectRule) → kept ≡ true → unless kept rule ≡ None
right kept rule is = ap (λ (b : Bool). unless b rule) is

wrong : (kept : Bool) (rule : ObjectRule) → kept ≡ false → unless kept rule ≡ Some rule
wrong kept rule is = ap (λ (b : Bool). unless b rule) is

judged_text : (judge : List ℕ → Bool) (p q : CursorView) (text : List ℕ) (fault : ObjectFault) → IsWhole texts p q text → IsContentAt (is_kept (judge text) text) p.at fault
    → Stopped (Begins (alone (judged judge))) p fault
judged_text judge p q text fault whole content =
    wrong_field texts (judged judge) p q text fault (text_field judge) whole
    (wrong (is_kept (judge text) text) Content content.broken ∙ ap Some (sym content.rule)) content.place

-- a whole text, judged
pub text_read : (judge : List ℕ → Bool) (p q : CursorView) (text : List ℕ) (r : Result (List ℕ) (Refused ObjectFault)) → IsWhole texts p q text
    → MatchResult r (λ name. (is_kept (judge text) text ≡ true) × (name ≡ text)) (IfFault (IsContentAt (is_kept (judge text) text) p.at)) → IsFieldRead (judged judge) p q r
text_read judge p q text (Ok name) whole kept =
    subst (λ (t : List ℕ). Took (alone (judged judge) t) p q) (sym kept.1)
    (right_field texts (judged judge) p q text (text_field judge) whole (right (is_kept (judge text) text) Content kept.0))
text_read judge p q text (Err refused) whole kept =
    weaker (IsContentAt (is_kept (judge text) text) p.at) (Stopped (Begins (alone (judged judge))) p) refused
    (λ fault content. judged_text judge p q text fault whole content) kept

-- bytes that end inside a text
pub text_cut : (judge : List ℕ → Bool) (c : CursorView) (fault : ObjectFault) → IsCut texts c fault → Stopped (Begins (alone (judged judge))) c fault
text_cut judge c fault cut = cut_field texts (judged judge) c fault (text_field judge) cut

pub count_cut : (few : ℕ → Bool) (c : CursorView) (fault : ObjectFault) → IsCut (numbers 4) c fault → Stopped (Begins (alone (count_field few))) c fault
count_cut few c fault cut = cut_field (numbers 4) (count_field few) c fault (number_field 4 (λ n. unless (few n) Content)) cut

pub count_wrong : (few : ℕ → Bool) (p q : CursorView) (n : ℕ) (fault : ObjectFault) → IsWhole (numbers 4) p q n → few n ≡ false → fault.rule ≡ Content → fault.at ≡ p.at
    → Stopped (Begins (alone (count_field few))) p fault
count_wrong few p q n fault whole broken rule place =
    wrong_field (numbers 4) (count_field few) p q n fault (number_field 4 (λ m. unless (few m) Content)) whole (wrong (few n) Content broken ∙ ap Some (sym rule)) place

pub count_right : (few : ℕ → Bool) (p q : CursorView) (n : ℕ) → IsWhole (numbers 4) p q n → few n ≡ true → Took (alone (count_field few) n) p q
count_right few p q n whole kept =
    right_field (numbers 4) (count_field few) p q n (number_field 4 (λ m. unless (few m) Content)) whole (right (few n) Content kept)

-- what a judged text that was taken keeps
kept_from : (kept : Bool) (rule : ObjectRule) → is_none (unless kept rule) ≡ true → kept ≡ true
kept_from true rule is = refl
kept_from false rule is = absurd cc

pub sound_text : (judge : List ℕ → Bool) (text : List ℕ) (rest : List Field) → AreSound (judged judge text ∷ rest) → (judge text ≡ true) × (is_utf8 text ≡ true) × AreSound rest
sound_text judge text rest sound =
    let both = and_parts (is_none (unless (is_kept (judge text) text) Content)) (list_all (λ (f : Field). is_none f.breaks) rest) sound in
    let kept = and_parts (judge text) (is_utf8 text) (kept_from (is_kept (judge text) text) Content both.0) in
    (kept.0, kept.1, both.1)

pub sound_number : (size n : ℕ) (few : Bool) (rest : List Field) → AreSound (number size n (unless few Content) ∷ rest) → (few ≡ true) × AreSound rest
sound_number size n few rest sound =
    let both = and_parts (is_none (unless few Content)) (list_all (λ (f : Field). is_none f.breaks) rest) sound in
    (kept_from few Content both.0, both.1)

pub judge_kept : (judge : List ℕ → Bool) (text : List ℕ) (p q : CursorView) → Took (alone (judged judge) text) p q → (judge text ≡ true) × (is_utf8 text ≡ true)
judge_kept judge text p q took = let kept = sound_text judge text [] took.sound in (kept.0, kept.1)

-- ---- a part of something larger

begins_within : {B C : Type 0} (inner : B → List Field) (outer : C → List Field) (make : B → C) (first : List Field) (rest : B → List Field) → Fit first
    → ((b : B) → Fit (rest b)) → ((b : B) → outer (make b) ≡ first ++ (inner b ++ rest b)) → (front : List Field) → Begins inner front → Begins outer (first ++ front)
begins_within inner outer make first rest fit fits are front b = record {
  whole = make b.whole;
  fit = subst Fit (sym (are b.whole)) (fit_append first (inner b.whole ++ rest b.whole) fit (fit_append (inner b.whole) (rest b.whole) b.fit (fits b.whole)));
  behind = b.behind ++ rest b.whole;
  are =
      are b.whole ∙ ap (λ (l : List Field). first ++ (l ++ rest b.whole)) b.are ∙ ap (λ (l : List Field). first ++ l) (append_assoc front b.behind (rest b.whole))
      ∙ sym (append_assoc first front (b.behind ++ rest b.whole));
}

-- where reading a part stops, reading the whole does; the fields before the part were taken, and what is behind it can be anything that fits
pub stopped_within : {B C : Type 0} (inner : B → List Field) (outer : C → List Field) (make : B → C) (first : List Field) (rest : B → List Field)
    → ((b : B) → Fit (rest b)) → ((b : B) → outer (make b) ≡ first ++ (inner b ++ rest b)) → (p q : CursorView) (fault : ObjectFault)
    → Took first p q → Stopped (Begins inner) q fault → Stopped (Begins outer) p fault
stopped_within inner outer make first rest fits are p q fault took s =
    stopped_behind (Begins inner) (Begins outer) first p q fault took (begins_within inner outer make first rest took.fit fits are) s

-- a list with one item more
pub counted_more : {A : Type 0} (fields : List A → A → List Field) (before after : List A) (n : ℕ) (p q r : CursorView)
    → (length before ≡ n) × Took (each_of fields [] before) p q → (item : A) × (after ≡ before ++ item ∷ []) × Took (fields before item) q r
    → (length after ≡ n + 1) × Took (each_of fields [] after) p r
counted_more {A} fields before after n p q r sofar next = (
  ap length next.1 ∙ length-append before (next.0 ∷ []) ∙ omega (arith, sofar.0),
  subst (λ (l : List A). Took (each_of fields [] l) p r) (sym next.1) (took_item fields before next.0 p q r sofar.1 next.2),
)
