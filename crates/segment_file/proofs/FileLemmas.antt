-- Files with the same bytes say the same.
use Rattle.std.proofs.Common.{◌≡◌, ℕ, suc, ◌-◌, Bool, true, zero, List, [], ◌∷◌, ◌++◌, length, drop, None, refl, sym, ap, ◌∙◌, arith}
use Rattle.std.specs.Prelude.{nat_le}
use Rattle.std.specs.List.{list_all}
use Rattle.std.proofs.lemmas.Bool.{and_parts, eqb-true, ltb-true}
use Rattle.profile_model.specs.LabelSets.{Label}
use Rattle.profile_model.specs.Sums.{Sample}
use Rattle.segment_file.specs.Fields.{Field, Fit, listed, number, spelled}
use Rattle.segment_file.specs.Files.{File, FileProfile, IsFile, file_fields, frame_fields, label_fields, labels_fields, part_field, profile_fields, push_fields, sample_fields, stack_fields, value_field}
use Rattle.segment_file.proofs.SpellingLemmas.{IsOnce, Fit-append, each_once, eight_once, followed, followed-append, four_once, front_once, listed_once, spelled-followed, text_once}

-- the first field fits
abbrev pub FirstFits : List Field → Type 0
FirstFits [] = Unit {0}
FirstFits (field ∷ fields) = field.fits ≡ true

pub first_fits : (fields : List Field) → Fit fields → FirstFits fields
first_fits [] fit = tt
first_fits (field ∷ fields) fit = (and_parts field.fits (list_all (λ (f : Field). f.fits) fields) fit).0

-- and so do those behind the first ones
pub others_fit : (n : ℕ) (fields : List Field) → Fit fields → Fit (drop n fields)
others_fit zero fields fit = fit
others_fit (suc n) [] fit = fit
others_fit (suc n) (field ∷ fields) fit = others_fit n fields (and_parts field.fits (list_all (λ (f : Field). f.fits) fields) fit).1

pub nth_fits : (n : ℕ) (fields : List Field) → Fit fields → FirstFits (drop n fields)
nth_fits n fields fit = first_fits (drop n fields) (others_fit n fields fit)

label_once : (before : List Label) → IsOnce (label_fields before)
label_once before label other rest more fit fits same =
    let name = text_once label.0 other.0 _ _ (ltb-true _ _ (nth_fits 0 (label_fields before label) fit)) (ltb-true _ _ (nth_fits 0 (label_fields before other) fits)) same in
    let value = text_once label.1 other.1 _ _ (ltb-true _ _ (nth_fits 1 (label_fields before label) fit)) (ltb-true _ _ (nth_fits 1 (label_fields before other) fits)) name.1 in
    (λ i. (name.0 i, value.0 i), value.1)

frames_once : (ordered also : Bool) (frames others : List (List ℕ)) (rest more : List ℕ) → length frames ≡ length others
    → Fit (frame_fields ordered frames) → Fit (frame_fields also others)
    → followed (frame_fields ordered frames) rest ≡ followed (frame_fields also others) more → (frames ≡ others) × (rest ≡ more)
frames_once ordered also [] [] rest more long fit fits same = (refl, same)
frames_once ordered also [] (y ∷ ys) rest more long fit fits same = absurd (omega arith)
frames_once ordered also (x ∷ xs) [] rest more long fit fits same = absurd (omega arith)
frames_once ordered also (x ∷ []) (y ∷ []) rest more long fit fits same =
    let frame = text_once x y _ _ (ltb-true _ _ (first_fits (frame_fields ordered (x ∷ [])) fit)) (ltb-true _ _ (first_fits (frame_fields also (y ∷ [])) fits)) same in
    (λ i. frame.0 i ∷ [], frame.1)
frames_once ordered also (x ∷ []) (y ∷ z ∷ ys) rest more long fit fits same = absurd (omega (arith, long))
frames_once ordered also (x ∷ z ∷ xs) (y ∷ []) rest more long fit fits same = absurd (omega (arith, long))
frames_once ordered also (x ∷ v ∷ xs) (y ∷ w ∷ ys) rest more long fit fits same =
    let mine = frame_fields ordered (x ∷ v ∷ xs) in
    let theirs = frame_fields also (y ∷ w ∷ ys) in
    let frame = text_once x y _ _ (ltb-true _ _ (first_fits mine fit)) (ltb-true _ _ (first_fits theirs fits)) same in
    let deeper = frames_once ordered also (v ∷ xs) (w ∷ ys) rest more (omega (arith, long)) (others_fit 1 mine fit) (others_fit 1 theirs fits) frame.1 in
    (λ i. frame.0 i ∷ deeper.0 i, deeper.1)

stack_once : (before : List Sample) → IsOnce (stack_fields before)
stack_once before stack other rest more fit fits same =
    let count = four_once (length stack) (length other) _ _ (ltb-true _ _ (first_fits (stack_fields before stack) fit)) (ltb-true _ _ (first_fits (stack_fields before other) fits)) same in
    frames_once _ _ stack other rest more count.0 (others_fit 1 (stack_fields before stack) fit) (others_fit 1 (stack_fields before other) fits) count.1

sample_once : (before : List Sample) → IsOnce (sample_fields before)
sample_once before sample other rest more fit fits same =
    let value = value_field before sample.1 ∷ [] in
    let worth = value_field before other.1 ∷ [] in
    let mine = Fit-append (stack_fields before sample.0) value fit in
    let theirs = Fit-append (stack_fields before other.0) worth fits in
    let stack = stack_once before sample.0 other.0 (followed value rest) (followed worth more) mine.0 theirs.0
    (sym (followed-append (stack_fields before sample.0) value rest) ∙ same ∙ followed-append (stack_fields before other.0) worth more) in
    let counted = eight_once sample.1 other.1 rest more (ltb-true _ _ (first_fits value mine.1)) (ltb-true _ _ (first_fits worth theirs.1)) stack.1 in
    (λ i. (stack.0 i, counted.0 i), counted.1)

-- what stands behind the labels
abbrev pub behind_labels : FileProfile → List Field
behind_labels profile =
    part_field profile.name ∷ part_field profile.sample_type ∷ part_field profile.sample_unit
    ∷ part_field profile.period_type ∷ part_field profile.period_unit
    ∷ number 8 profile.time_ms None
    ∷ listed true sample_fields profile.values

pub profile_once : IsOnce profile_fields
profile_once profile other rest more fit fits same =
    let a = behind_labels profile in
    let b = behind_labels other in
    let mine = Fit-append (labels_fields profile.labels) a fit in
    let theirs = Fit-append (labels_fields other.labels) b fits in
    let labels = listed_once label_fields (nat_le (length profile.labels) 31) (nat_le (length other.labels) 31) label_once profile.labels other.labels (followed a rest) (followed b more) mine.0 theirs.0
    (sym (followed-append (labels_fields profile.labels) a rest) ∙ same ∙ followed-append (labels_fields other.labels) b more) in
    let name = text_once profile.name other.name _ _ (ltb-true _ _ (nth_fits 0 a mine.1)) (ltb-true _ _ (nth_fits 0 b theirs.1)) labels.1 in
    let sample_type = text_once profile.sample_type other.sample_type _ _ (ltb-true _ _ (nth_fits 1 a mine.1)) (ltb-true _ _ (nth_fits 1 b theirs.1)) name.1 in
    let sample_unit = text_once profile.sample_unit other.sample_unit _ _ (ltb-true _ _ (nth_fits 2 a mine.1)) (ltb-true _ _ (nth_fits 2 b theirs.1)) sample_type.1 in
    let period_type = text_once profile.period_type other.period_type _ _ (ltb-true _ _ (nth_fits 3 a mine.1)) (ltb-true _ _ (nth_fits 3 b theirs.1)) sample_unit.1 in
    let period_unit = text_once profile.period_unit other.period_unit _ _ (ltb-true _ _ (nth_fits 4 a mine.1)) (ltb-true _ _ (nth_fits 4 b theirs.1)) period_type.1 in
    let time = eight_once profile.time_ms other.time_ms _ _ (ltb-true _ _ (nth_fits 5 a mine.1)) (ltb-true _ _ (nth_fits 5 b theirs.1)) period_unit.1 in
    let values = listed_once sample_fields true true sample_once profile.values other.values rest more (others_fit 6 a mine.1) (others_fit 6 b theirs.1) time.1 in (
      λ i. record {
        labels = labels.0 i;
        name = name.0 i;
        sample_type = sample_type.0 i;
        sample_unit = sample_unit.0 i;
        period_type = period_type.0 i;
        period_unit = period_unit.0 i;
        time_ms = time.0 i;
        values = values.0 i;
      },
      values.1,
    )

pub push_once : IsOnce push_fields
push_once push other rest more fit fits same =
    let a = push_fields push in
    let b = push_fields other in
    let tenant = text_once push.tenant other.tenant _ _ (ltb-true _ _ (first_fits a fit)) (ltb-true _ _ (first_fits b fits)) same in
    let profiles = listed_once (λ before profile. profile_fields profile) (nat_le (length push.profiles) 4096) (nat_le (length other.profiles) 4096) (λ before. profile_once) push.profiles other.profiles rest more (others_fit 1 a fit) (others_fit 1 b fits) tenant.1 in
    (λ i. record { tenant = tenant.0 i; profiles = profiles.0 i }, profiles.1)

-- whatever rules they break
pub file_once : (file other : File) → IsFile file → IsFile other → spelled (file_fields file) ≡ spelled (file_fields other) → file ≡ other
file_once file other is also same =
    let a = file_fields file in
    let b = file_fields other in
    let one : followed a [] ≡ followed b [] = sym (spelled-followed a []) ∙ ap (λ (l : List ℕ). l ++ []) same ∙ spelled-followed b [] in
    let long = eqb-true (length file.mark) 4 (nth_fits 0 a is.fit) ∙ sym (eqb-true (length other.mark) 4 (nth_fits 0 b also.fit)) in
    let mark = front_once file.mark other.mark _ _ long one in
    let lo = eight_once file.lo other.lo _ _ (ltb-true _ _ (nth_fits 1 a is.fit)) (ltb-true _ _ (nth_fits 1 b also.fit)) mark.1 in
    let hi = eight_once file.hi other.hi _ _ (ltb-true _ _ (nth_fits 2 a is.fit)) (ltb-true _ _ (nth_fits 2 b also.fit)) lo.1 in
    let count : length file.pushes ≡ length other.pushes = is.count ∙ ap (λ (n : ℕ). n - file.lo) hi.0 ∙ ap (λ (n : ℕ). other.hi - n) lo.0 ∙ sym also.count in
    let pushes = each_once (λ before push. push_fields push) (λ before. push_once) [] file.pushes other.pushes [] [] count (others_fit 3 a is.fit) (others_fit 3 b also.fit) hi.1 in
    λ i. record { mark = mark.0 i; lo = lo.0 i; hi = hi.0 i; pushes = pushes.0 i }
