-- Pushes and what stands before them, read.
use Rattle.std.proofs.Common.{◌≡◌, ◌⊎◌, inl, inr, ℕ, ◌+◌, ◌-◌, ◌<◌, ◌&&◌, Bool, true, false, List, [], ◌∷◌, ◌++◌, length, Option, Some, None, Ok, Err, refl, subst, sym, ap, ◌∙◌, arith}
use Rattle.std.specs.Prelude.{nat_eq, nat_lt}
use Rattle.std.specs.Cmp.Lexicographic.{pointwise}
use Rattle.std.specs.Option.{is_none}
use Rattle.std.specs.Str.{is_utf8}
use Rattle.std.proofs.lemmas.Bool.{and_from, lt-ltb}
use Rattle.std.proofs.lemmas.List.{append_assoc, append-nil}
use Rattle.std.proofs.lemmas.Slice.Eq.{bytes_eq-Decides}
use Rattle.std.proofs.lemmas.Str.{is_utf8-from_IsUtf8}
use Rattle.faults.specs.declared.refused.Refused.TheVariants.{Fault}
use Rattle.profile_model.specs.TenantPlaces.{wrong_place}
use Rattle.segment_file.specs.declared.fault.ObjectFault.{ObjectFault}
use Rattle.segment_file.specs.declared.fault.ObjectRule.TheVariants.{Content, Form}
use Rattle.segment_file.specs.Decoded.{IsBroken, Reaches}
use Rattle.segment_file.specs.Fields.{Field, Fit, each_of, spelled, unless}
use Rattle.segment_file.specs.Files.{File, FileProfile, FilePush, mark_field, mark_of_objects, push_fields}
use Rattle.segment_file.specs.ReadFields.{BeginsFile, alone, each_profile, each_push, few_profiles, head_fields, hi_field, is_tenant, judged, list_fields, lo_field}
use Rattle.segment_file.specs.Reading.{Begins, BeginsCounted, CursorView, IsCut, IsCutHere, IsWhole, IsWrongHere, Stopped, Took, marks, numbers, texts}
use Rattle.segment_file.proofs.ReadLemmas.{IsFieldOf, cut_field, fillers, fillers_fit, fit_append, length-fillers, number_field, right_field, stopped_behind, stopped_in, stopped_item, stopped_within, text_read, took_both, took_nothing, wrong_field}
use Rattle.segment_file.proofs.TenantLemmas.{tenant_utf8}

-- ---- pushes

pub none_from : {A : Type 0} (o : Option A) → is_none o ≡ true → o ≡ None
none_from None is = refl
none_from (Some x) is = absurd cc

pub tenant_right : (p q : CursorView) (text : List ℕ) → IsWhole texts p q text → wrong_place text ≡ None → Took (alone (judged is_tenant) text) p q
tenant_right p q text whole is =
    text_read is_tenant p q text (Ok text) whole (and_from (is_tenant text) (is_utf8 text) (ap is_none is) (is_utf8-from_IsUtf8 text (tenant_utf8 text is)), refl)

pub tenant_wrong : (p q : CursorView) (text : List ℕ) (fault : ObjectFault) → IsWhole texts p q text → is_none (wrong_place text) ≡ false → fault.rule ≡ Content → fault.at ≡ p.at
    → Stopped (Begins (alone (judged is_tenant))) p fault
tenant_wrong p q text fault whole is rule place =
    text_read is_tenant p q text (Err (Fault fault)) whole (record { broken = ap (λ (b : Bool). b && is_utf8 text) is; rule = rule; place = place })

abbrev push_of : List ℕ → List FileProfile → FilePush
push_of tenant profiles = record { tenant = tenant; profiles = profiles }

pub push_at_tenant : (c : CursorView) (fault : ObjectFault) → Stopped (Begins (alone (judged is_tenant))) c fault → Stopped (Begins push_fields) c fault
push_at_tenant c fault s =
    let rest = list_fields few_profiles each_profile [] in
    stopped_within (alone (judged is_tenant)) push_fields (λ tenant. push_of tenant []) [] (λ tenant. rest) (λ tenant. refl) (λ tenant. refl) c c fault (took_nothing c) s

pub push_at_profiles : (tenant : List ℕ) (p q : CursorView) (fault : ObjectFault) → Took (alone (judged is_tenant) tenant) p q
    → Stopped (Begins (list_fields few_profiles each_profile)) q fault → Stopped (Begins push_fields) p fault
push_at_profiles tenant p q fault took s =
    stopped_within (list_fields few_profiles each_profile) push_fields (push_of tenant) (alone (judged is_tenant) tenant) (λ profiles. []) (λ profiles. refl)
    (λ profiles. ap (λ (l : List Field). judged is_tenant tenant ∷ l) (sym (append-nil (list_fields few_profiles each_profile profiles)))) p q fault took s

pub push_taken : (tenant : List ℕ) (profiles : List FileProfile) (p q r : CursorView) → Took (alone (judged is_tenant) tenant) p q
    → Took (list_fields few_profiles each_profile profiles) q r → Took (push_fields (push_of tenant profiles)) p r
push_taken tenant profiles p q r first next = took_both (alone (judged is_tenant) tenant) (list_fields few_profiles each_profile profiles) p q r first next

abbrev empty_push : FilePush
empty_push = push_of [] []

empty_push_fits : (before : List FilePush) → Fit (each_push before empty_push)
empty_push_fits before = refl

pub pushes_at : (count : ℕ) (before : List FilePush) (p q : CursorView) (fault : ObjectFault) → length before < count → Took (each_of each_push [] before) p q
    → Stopped (Begins push_fields) q fault → Stopped (BeginsCounted count each_push) p fault
pushes_at count before p q fault short took s = stopped_item each_push empty_push empty_push_fits count before short p q fault took s

-- ---- what stands before the pushes

mark_spelled : IsFieldOf marks mark_field
mark_spelled = record { bytes = λ mark. refl; fits = λ mark long. eqb-from (length mark) long }
  where
    eqb-from : (n : ℕ) → n ≡ 4 → nat_eq n 4 ≡ true
    eqb-from n is = ap (λ (m : ℕ). nat_eq m 4) is

-- a file with so many empty pushes
abbrev file_with : List ℕ → ℕ → ℕ → List FilePush → File
file_with mark lo hi pushes = record { mark = mark; lo = lo; hi = hi; pushes = pushes }

begins_mark : (front : List Field) → Begins (alone mark_field) front → BeginsFile front
begins_mark front b =
    let rest = lo_field 0 ∷ hi_field 0 0 ∷ [] in record {
      file = file_with b.whole 0 0 [];
      shape = record { count = refl; fit = fit_append (alone mark_field b.whole) rest b.fit refl };
      behind = b.behind ++ rest;
      are = ap (λ (l : List Field). l ++ rest) b.are ∙ append_assoc front b.behind rest;
    }

pub mark_cut : (c : CursorView) (fault : ObjectFault) → IsCut marks c fault → Stopped BeginsFile c fault
mark_cut c fault cut = stopped_in (Begins (alone mark_field)) BeginsFile c fault begins_mark (cut_field marks mark_field c fault mark_spelled cut)

pub mark_wrong : (p q : CursorView) (mark : List ℕ) (fault : ObjectFault) → IsWhole marks p q mark → pointwise nat_eq mark mark_of_objects ≡ false → fault.rule ≡ Form → fault.at ≡ p.at
    → Stopped BeginsFile p fault
mark_wrong p q mark fault whole other rule place =
    stopped_in (Begins (alone mark_field)) BeginsFile p fault begins_mark
    (wrong_field marks mark_field p q mark fault mark_spelled whole (ap (λ (b : Bool). unless b Form) other ∙ ap Some (sym rule)) place)

pub mark_right : (p q : CursorView) (mark : List ℕ) → IsWhole marks p q mark → pointwise nat_eq mark mark_of_objects ≡ true → Took (alone mark_field mark_of_objects) p q
mark_right p q mark whole same =
    subst (λ (m : List ℕ). Took (alone mark_field m) p q) ((bytes_eq-Decides mark mark_of_objects).0 same)
    (right_field marks mark_field p q mark mark_spelled whole (ap (λ (b : Bool). unless b Form) same))

begins_lo : (mark : List ℕ) → Fit (alone mark_field mark) → (front : List Field) → Begins (alone lo_field) front → BeginsFile (alone mark_field mark ++ front)
begins_lo mark fit front b =
    let rest = hi_field b.whole 0 ∷ [] in record {
      file = file_with mark b.whole 0 [];
      shape = record { count = omega arith; fit = fit_append (alone mark_field mark) (lo_field b.whole ∷ rest) fit (fit_append (alone lo_field b.whole) rest b.fit refl) };
      behind = b.behind ++ rest;
      are = ap (λ (l : List Field). mark_field mark ∷ (l ++ rest)) b.are ∙ ap (λ (l : List Field). mark_field mark ∷ l) (append_assoc front b.behind rest);
    }

pub lo_cut : (mark : List ℕ) (p q : CursorView) (fault : ObjectFault) → Took (alone mark_field mark) p q → IsCut (numbers 8) q fault → Stopped BeginsFile p fault
lo_cut mark p q fault took cut =
    stopped_behind (Begins (alone lo_field)) BeginsFile (alone mark_field mark) p q fault took (begins_lo mark took.fit)
    (cut_field (numbers 8) lo_field q fault (number_field 8 (λ n. None)) cut)

pub lo_right : (mark : List ℕ) (lo : ℕ) (p q r : CursorView) → Took (alone mark_field mark) p q → IsWhole (numbers 8) q r lo → Took (mark_field mark ∷ lo_field lo ∷ []) p r
lo_right mark lo p q r took whole =
    took_both (alone mark_field mark) (alone lo_field lo) p q r took (right_field (numbers 8) lo_field q r lo (number_field 8 (λ n. None)) whole refl)

begins_hi : (mark : List ℕ) (lo : ℕ) → Fit (mark_field mark ∷ lo_field lo ∷ []) → (front : List Field) → Begins (alone (hi_field lo)) front
    → BeginsFile ((mark_field mark ∷ lo_field lo ∷ []) ++ front)
begins_hi mark lo fit front b =
    let pushes = fillers empty_push (b.whole - lo) in
    let rest = each_of each_push [] pushes in
    let first = mark_field mark ∷ lo_field lo ∷ [] in record {
      file = file_with mark lo b.whole pushes;
      shape = record {
        count = length-fillers empty_push (b.whole - lo);
        fit = fit_append first (hi_field lo b.whole ∷ rest) fit (fit_append (alone (hi_field lo) b.whole) rest b.fit (fillers_fit each_push empty_push empty_push_fits [] (b.whole - lo)));
      };
      behind = b.behind ++ rest;
      are = ap (λ (l : List Field). first ++ (l ++ rest)) b.are ∙ ap (λ (l : List Field). first ++ l) (append_assoc front b.behind rest);
    }

judge_hi : (lo : ℕ) → IsFieldOf (numbers 8) (hi_field lo)
judge_hi lo = number_field 8 (λ n. unless (nat_lt lo n) Form)

pub hi_cut : (mark : List ℕ) (lo : ℕ) (p q : CursorView) (fault : ObjectFault) → Took (mark_field mark ∷ lo_field lo ∷ []) p q → IsCut (numbers 8) q fault → Stopped BeginsFile p fault
hi_cut mark lo p q fault took cut =
    stopped_behind (Begins (alone (hi_field lo))) BeginsFile (mark_field mark ∷ lo_field lo ∷ []) p q fault took (begins_hi mark lo took.fit)
    (cut_field (numbers 8) (hi_field lo) q fault (judge_hi lo) cut)

pub hi_wrong : (mark : List ℕ) (lo hi : ℕ) (p q r : CursorView) (fault : ObjectFault) → Took (mark_field mark ∷ lo_field lo ∷ []) p q → IsWhole (numbers 8) q r hi
    → nat_lt lo hi ≡ false → fault.rule ≡ Form → fault.at ≡ q.at → Stopped BeginsFile p fault
hi_wrong mark lo hi p q r fault took whole low rule place =
    stopped_behind (Begins (alone (hi_field lo))) BeginsFile (mark_field mark ∷ lo_field lo ∷ []) p q fault took (begins_hi mark lo took.fit)
    (wrong_field (numbers 8) (hi_field lo) q r hi fault (judge_hi lo) whole (ap (λ (b : Bool). unless b Form) low ∙ ap Some (sym rule)) place)

pub hi_right : (mark : List ℕ) (lo hi : ℕ) (p q r : CursorView) → Took (mark_field mark ∷ lo_field lo ∷ []) p q → IsWhole (numbers 8) q r hi → lo < hi → Took (head_fields mark lo hi) p r
hi_right mark lo hi p q r took whole low =
    took_both (mark_field mark ∷ lo_field lo ∷ []) (alone (hi_field lo) hi) p q r took
    (right_field (numbers 8) (hi_field lo) q r hi (judge_hi lo) whole (ap (λ (b : Bool). unless b Form) (lt-ltb lo hi low)))

-- ---- the file

begins_pushes : (mark : List ℕ) (lo hi : ℕ) → Fit (head_fields mark lo hi) → (front : List Field) → BeginsCounted (hi - lo) each_push front → BeginsFile (head_fields mark lo hi ++ front)
begins_pushes mark lo hi fit front b = record {
  file = file_with mark lo hi b.items;
  shape = record { count = b.counted; fit = fit_append (head_fields mark lo hi) (each_of each_push [] b.items) fit b.fit };
  behind = b.behind;
  are = ap (λ (l : List Field). head_fields mark lo hi ++ l) b.are;
}

pub file_at_pushes : (mark : List ℕ) (lo hi : ℕ) (p q : CursorView) (fault : ObjectFault) → Took (head_fields mark lo hi) p q → Stopped (BeginsCounted (hi - lo) each_push) q fault
    → Stopped BeginsFile p fault
file_at_pushes mark lo hi p q fault took s =
    stopped_behind (BeginsCounted (hi - lo) each_push) BeginsFile (head_fields mark lo hi) p q fault took (begins_pushes mark lo hi took.fit) s

-- the place of a fault from the beginning
pub broken : (bytes : List ℕ) (c : CursorView) (fault : ObjectFault) → c.rest ≡ bytes → c.at ≡ 0 → Stopped BeginsFile c fault → IsBroken bytes fault.rule fault.at
broken bytes c fault all front s = by s.here
  where
    reaches : (rest : List ℕ) → s.rest ≡ rest → Reaches bytes s.field rest (length (spelled s.before))
    reaches rest is = record {
      file = s.may.file;
      shape = s.may.shape;
      before = s.before;
      behind = s.may.behind;
      fields = s.may.are ∙ append_assoc s.before (s.field ∷ []) s.may.behind;
      sound = s.sound;
      bytes_are = sym all ∙ s.bytes_are ∙ ap (λ (l : List ℕ). spelled s.before ++ l) is;
      place = refl;
    }

    by : (IsWrongHere s.field s.rest fault.rule × (fault.at ≡ c.at + length (spelled s.before))) ⊎ (IsCutHere s.field s.rest × (fault.rule ≡ Form) × (fault.at ≡ c.at + length c.rest))
        → IsBroken bytes fault.rule fault.at
    by (inl w) =
        let place : length (spelled s.before) ≡ fault.at = omega (arith, w.1, front) in
        subst (IsBroken bytes fault.rule) place (inl (record { field = s.field; more = w.0.more; reaches = reaches (s.field.bytes ++ w.0.more) w.0.whole; wrong = w.0.wrong }))
    by (inr k) =
        inr (
          k.1,
          inl (
            record {
              field = s.field;
              begun = s.rest;
              missing = k.0.missing;
              from = length (spelled s.before);
              reaches = reaches s.rest refl;
              part = k.0.part;
              some = k.0.some;
            },
            omega (arith, k.2, front, ap length all),
          ),
        )
