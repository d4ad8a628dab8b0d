-- Bytes have one first fault, or none where they are a whole file that breaks no rule.
use Rattle.std.proofs.Common.{◌≡◌, ◌≢◌, inl, inr, ℕ, ◌+◌, true, false, true≢false, List, [], ◌∷◌, ◌++◌, length, refl, subst, sym, ap, ◌∙◌, arith}
use Rattle.std.specs.Prelude.{unwrap_or}
use Rattle.std.specs.List.{list_all}
use Rattle.std.specs.Option.{is_none}
use Rattle.std.proofs.lemmas.Bool.{and_parts}
use Rattle.std.proofs.lemmas.List.{append_assoc, append_cancel_left, append-nil, length-append}
use Rattle.segment_file.specs.declared.fault.ObjectRule.{ObjectRule}
use Rattle.segment_file.specs.declared.fault.ObjectRule.TheVariants.{Form}
use Rattle.segment_file.specs.Decoded.{EndsInside, HasWrongField, IsBroken, Reaches}
use Rattle.segment_file.specs.Fields.{AreSound, Field, spelled}
use Rattle.segment_file.specs.Files.{File, IsFile, file_fields}
use Rattle.segment_file.specs.Laws.{IsSameFault}
use Rattle.segment_file.proofs.SpellingLemmas.{followed, spelled-followed}
use Rattle.segment_file.proofs.TwinLemmas.{AreOne, AreTwins, file_twins}

first_sound : (field : Field) (fields : List Field) → AreSound (field ∷ fields) → is_none field.breaks ≡ true
first_sound field fields sound = (and_parts (is_none field.breaks) (list_all (λ (f : Field). is_none f.breaks) fields) sound).0

later_sound : (field : Field) (fields : List Field) → AreSound (field ∷ fields) → AreSound fields
later_sound field fields sound = (and_parts (is_none field.breaks) (list_all (λ (f : Field). is_none f.breaks) fields) sound).1

-- one field isn't both sound and wrong
not_both : (field other : Field) → field ≡ other → is_none field.breaks ≡ true → is_none other.breaks ≡ false → ⊥
not_both field other same sound wrong = true≢false (sym sound ∙ ap (λ (f : Field). is_none f.breaks) same ∙ wrong)

some_length : (bytes : List ℕ) → bytes ≢ [] → length bytes ≡ 0 → ⊥
some_length [] some none = some refl
some_length (b ∷ bytes) some none = absurd (omega (arith, none))

-- where bytes end inside a field, no other field stands there whole
cut_short : (field other : Field) (begun missing more : List ℕ) → AreOne field other → field.bytes ≡ begun ++ missing → missing ≢ [] → begun ≡ other.bytes ++ more → ⊥
cut_short field other begun missing more one part some whole =
    let reach : field.bytes ++ [] ≡ other.bytes ++ (more ++ missing) = append-nil field.bytes ∙ part ∙ ap (λ (l : List ℕ). l ++ missing) whole ∙ append_assoc other.bytes more missing in
    let same = one [] (more ++ missing) reach in
    let long : length field.bytes ≡ length other.bytes = ap (λ (f : Field). length f.bytes) same in
    let sum : length field.bytes ≡ length begun + length missing = ap length part ∙ length-append begun missing in
    let wide : length begun ≡ length other.bytes + length more = ap length whole ∙ length-append other.bytes more in
    some_length missing some (omega (arith, long, sum, wide))

-- what follows the same field is the same
behind_one : (field other : Field) (rest more : List ℕ) → field ≡ other → field.bytes ++ rest ≡ other.bytes ++ more → rest ≡ more
behind_one field other rest more one same = append_cancel_left field.bytes rest more (same ∙ ap (λ (f : Field). f.bytes ++ more) (sym one))

-- two first wrong fields are one
wrong_once : (before front : List Field) (field other : Field) (behind back : List Field) (rest more : List ℕ)
    → AreTwins (before ++ field ∷ behind) (front ++ other ∷ back) → AreSound before → AreSound front
    → is_none field.breaks ≡ false → is_none other.breaks ≡ false
    → followed before (field.bytes ++ rest) ≡ followed front (other.bytes ++ more) → (before ≡ front) × (field ≡ other)
wrong_once [] [] field other behind back rest more twins sound also wrong too same = (refl, twins.0 rest more same)
wrong_once [] (g ∷ front) field other behind back rest more twins sound also wrong too same =
    absurd (not_both g field (sym (twins.0 rest (followed front (other.bytes ++ more)) same)) (first_sound g front also) wrong)
wrong_once (f ∷ before) [] field other behind back rest more twins sound also wrong too same =
    absurd (not_both f other (twins.0 (followed before (field.bytes ++ rest)) more same) (first_sound f before sound) too)
wrong_once (f ∷ before) (g ∷ front) field other behind back rest more twins sound also wrong too same =
    let one = twins.0 (followed before (field.bytes ++ rest)) (followed front (other.bytes ++ more)) same in
    let deeper = wrong_once before front field other behind back rest more (twins.1 one) (later_sound f before sound) (later_sound g front also) wrong too
    (behind_one f g (followed before (field.bytes ++ rest)) (followed front (other.bytes ++ more)) one same) in
    (λ i. one i ∷ deeper.0 i, deeper.1)

-- bytes that end inside a field have no wrong field
cut_or_wrong : (before front : List Field) (field other : Field) (behind back : List Field) (begun missing more : List ℕ)
    → AreTwins (before ++ field ∷ behind) (front ++ other ∷ back) → AreSound before
    → field.bytes ≡ begun ++ missing → missing ≢ [] → is_none other.breaks ≡ false
    → followed before begun ≡ followed front (other.bytes ++ more) → ⊥
cut_or_wrong [] [] field other behind back begun missing more twins sound part some wrong same = cut_short field other begun missing more twins.0 part some same
cut_or_wrong [] (g ∷ front) field other behind back begun missing more twins sound part some wrong same =
    cut_short field g begun missing (followed front (other.bytes ++ more)) twins.0 part some same
cut_or_wrong (f ∷ before) [] field other behind back begun missing more twins sound part some wrong same =
    not_both f other (twins.0 (followed before begun) more same) (first_sound f before sound) wrong
cut_or_wrong (f ∷ before) (g ∷ front) field other behind back begun missing more twins sound part some wrong same =
    let one = twins.0 (followed before begun) (followed front (other.bytes ++ more)) same in
    cut_or_wrong before front field other behind back begun missing more (twins.1 one) (later_sound f before sound) part some wrong
    (behind_one f g (followed before begun) (followed front (other.bytes ++ more)) one same)

-- and no whole file stands there
cut_or_whole : (before : List Field) (field : Field) (behind fields : List Field) (begun missing more : List ℕ)
    → AreTwins (before ++ field ∷ behind) fields → field.bytes ≡ begun ++ missing → missing ≢ [] → followed before begun ≡ followed fields more → ⊥
cut_or_whole [] field behind [] begun missing more twins part some same = twins
cut_or_whole [] field behind (g ∷ fields) begun missing more twins part some same = cut_short field g begun missing (followed fields more) twins.0 part some same
cut_or_whole (f ∷ before) field behind [] begun missing more twins part some same = twins
cut_or_whole (f ∷ before) field behind (g ∷ fields) begun missing more twins part some same =
    let one = twins.0 (followed before begun) (followed fields more) same in
    cut_or_whole before field behind fields begun missing more (twins.1 one) part some (behind_one f g (followed before begun) (followed fields more) one same)

-- a whole file that breaks no rule has no wrong field
wrong_or_whole : (before : List Field) (field : Field) (behind fields : List Field) (rest more : List ℕ)
    → AreTwins (before ++ field ∷ behind) fields → AreSound fields → is_none field.breaks ≡ false → followed before (field.bytes ++ rest) ≡ followed fields more → ⊥
wrong_or_whole [] field behind [] rest more twins sound wrong same = twins
wrong_or_whole [] field behind (g ∷ fields) rest more twins sound wrong same =
    not_both g field (sym (twins.0 rest (followed fields more) same)) (first_sound g fields sound) wrong
wrong_or_whole (f ∷ before) field behind [] rest more twins sound wrong same = twins
wrong_or_whole (f ∷ before) field behind (g ∷ fields) rest more twins sound wrong same =
    let one = twins.0 (followed before (field.bytes ++ rest)) (followed fields more) same in
    wrong_or_whole before field behind fields rest more (twins.1 one) (later_sound g fields sound) wrong
    (behind_one f g (followed before (field.bytes ++ rest)) (followed fields more) one same)

-- two whole files where bytes begin are one
whole_once : (fields others : List Field) (rest more : List ℕ) → AreTwins fields others → followed fields rest ≡ followed others more → (fields ≡ others) × (rest ≡ more)
whole_once [] [] rest more twins same = (refl, same)
whole_once [] (g ∷ others) rest more twins same = absurd twins
whole_once (f ∷ fields) [] rest more twins same = absurd twins
whole_once (f ∷ fields) (g ∷ others) rest more twins same =
    let one = twins.0 (followed fields rest) (followed others more) same in
    let deeper = whole_once fields others rest more (twins.1 one) (behind_one f g (followed fields rest) (followed others more) one same) in
    (λ i. one i ∷ deeper.0 i, deeper.1)

-- ---- of bytes

module _ (bytes : List ℕ) where
  reached : (field : Field) (rest : List ℕ) (at : ℕ) (r : Reaches bytes field rest at) → bytes ≡ followed r.before rest
  reached field rest at r = r.bytes_are ∙ spelled-followed r.before rest

  twins_of : (field other : Field) (rest more : List ℕ) (at place : ℕ) (r : Reaches bytes field rest at) (s : Reaches bytes other more place)
      → AreTwins (r.before ++ field ∷ r.behind) (s.before ++ other ∷ s.behind)
  twins_of field other rest more at place r s =
      subst (λ (l : List Field). AreTwins l (s.before ++ other ∷ s.behind)) r.fields
      (subst (λ (l : List Field). AreTwins (file_fields r.file) l) s.fields (file_twins r.file s.file r.shape s.shape))

  twins_whole : (field : Field) (rest : List ℕ) (at : ℕ) (r : Reaches bytes field rest at) (file : File) → IsFile file
      → AreTwins (r.before ++ field ∷ r.behind) (file_fields file)
  twins_whole field rest at r file is = subst (λ (l : List Field). AreTwins l (file_fields file)) r.fields (file_twins r.file file r.shape is)

  is_wrong : (rule : ObjectRule) (at : ℕ) (w : HasWrongField bytes rule at) → is_none w.field.breaks ≡ false
  is_wrong rule at w = ap is_none w.wrong

  wrong_wrong : (rule other : ObjectRule) (at place : ℕ) → HasWrongField bytes rule at → HasWrongField bytes other place → IsSameFault rule other at place
  wrong_wrong rule other at place w v =
      let r = w.reaches in
      let s = v.reaches in
      let one = wrong_once r.before s.before w.field v.field r.behind s.behind w.more v.more (twins_of w.field v.field _ _ at place r s) r.sound s.sound
      (is_wrong rule at w) (is_wrong other place v) (sym (reached w.field _ at r) ∙ reached v.field _ place s) in
      record {
        same = sym (ap (λ o. unwrap_or o Form) w.wrong) ∙ ap (λ (f : Field). unwrap_or f.breaks Form) one.1 ∙ ap (λ o. unwrap_or o Form) v.wrong;
        together = r.place ∙ ap (λ (l : List Field). length (spelled l)) one.0 ∙ sym s.place;
      }

  cut_wrong : (rule : ObjectRule) (at : ℕ) → EndsInside bytes → HasWrongField bytes rule at → ⊥
  cut_wrong rule at c w =
      let r = c.reaches in
      let s = w.reaches in
      cut_or_wrong r.before s.before c.field w.field r.behind s.behind c.begun c.missing w.more (twins_of c.field w.field _ _ c.from at r s) r.sound c.part c.some
      (is_wrong rule at w) (sym (reached c.field _ c.from r) ∙ reached w.field _ at s)

  -- bytes that begin with a whole file that breaks no rule
  cut_whole : (file : File) (more : List ℕ) → IsFile file → bytes ≡ spelled (file_fields file) ++ more → EndsInside bytes → ⊥
  cut_whole file more is whole c =
      let r = c.reaches in
      cut_or_whole r.before c.field r.behind (file_fields file) c.begun c.missing more (twins_whole c.field _ c.from r file is) c.part c.some
      (sym (reached c.field _ c.from r) ∙ whole ∙ spelled-followed (file_fields file) more)

  wrong_whole : (file : File) (more : List ℕ) → IsFile file → AreSound (file_fields file) → bytes ≡ spelled (file_fields file) ++ more
      → (rule : ObjectRule) (at : ℕ) → HasWrongField bytes rule at → ⊥
  wrong_whole file more is sound whole rule at w =
      let r = w.reaches in
      wrong_or_whole r.before w.field r.behind (file_fields file) w.more more (twins_whole w.field _ at r file is) sound (is_wrong rule at w)
      (sym (reached w.field _ at r) ∙ whole ∙ spelled-followed (file_fields file) more)

  whole_whole : (file other : File) (rest more : List ℕ) → IsFile file → IsFile other → bytes ≡ spelled (file_fields file) ++ rest → bytes ≡ spelled (file_fields other) ++ more
      → (file_fields file ≡ file_fields other) × (rest ≡ more)
  whole_whole file other rest more is also whole too =
      whole_once (file_fields file) (file_fields other) rest more (file_twins file other is also)
      (sym (spelled-followed (file_fields file) rest) ∙ sym whole ∙ too ∙ spelled-followed (file_fields other) more)

  pub one_fault : (rule other : ObjectRule) (at place : ℕ) → IsBroken bytes rule at → IsBroken bytes other place → IsSameFault rule other at place
  one_fault rule other at place (inl w) (inl v) = wrong_wrong rule other at place w v
  one_fault rule other at place (inl w) (inr (form, inl c)) = absurd (cut_wrong rule at c.0 w)
  one_fault rule other at place (inl w) (inr (form, inr h)) = absurd (wrong_whole h.file h.more h.shape h.sound h.bytes_are rule at w)
  one_fault rule other at place (inr (form, inl c)) (inl v) = absurd (cut_wrong other place c.0 v)
  one_fault rule other at place (inr (form, inl c)) (inr (also, inl d)) = record { same = form ∙ sym also; together = c.1 ∙ sym d.1 }
  one_fault rule other at place (inr (form, inl c)) (inr (also, inr h)) = absurd (cut_whole h.file h.more h.shape h.bytes_are c.0)
  one_fault rule other at place (inr (form, inr h)) (inl v) = absurd (wrong_whole h.file h.more h.shape h.sound h.bytes_are other place v)
  one_fault rule other at place (inr (form, inr h)) (inr (also, inl d)) = absurd (cut_whole h.file h.more h.shape h.bytes_are d.0)
  one_fault rule other at place (inr (form, inr h)) (inr (also, inr k)) =
      let one = whole_whole h.file k.file h.more k.more h.shape k.shape h.bytes_are k.bytes_are in
      record { same = form ∙ sym also; together = h.place ∙ ap (λ (l : List Field). length (spelled l)) one.0 ∙ sym k.place }

  pub whole_unbroken : (file : File) (rule : ObjectRule) (at : ℕ) → IsFile file → AreSound (file_fields file) → bytes ≡ spelled (file_fields file) → IsBroken bytes rule at → ⊥
  whole_unbroken file rule at is sound whole (inl w) = wrong_whole file [] is sound (whole ∙ sym (append-nil (spelled (file_fields file)))) rule at w
  whole_unbroken file rule at is sound whole (inr (form, inl c)) = cut_whole file [] is (whole ∙ sym (append-nil (spelled (file_fields file)))) c.0
  whole_unbroken file rule at is sound whole (inr (form, inr h)) =
      h.some (sym (whole_whole file h.file [] h.more is h.shape (whole ∙ sym (append-nil (spelled (file_fields file)))) h.bytes_are).1)
