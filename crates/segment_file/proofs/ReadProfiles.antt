-- Profiles and pushes, read one behind another.
use Rattle.std.proofs.Common.{◌≡◌, ℕ, ◌<◌, ◌≤◌, List, [], ◌∷◌, ◌++◌, length, None, refl, subst, sym, ap, ◌∙◌}
use Rattle.std.specs.Prelude.{nat_le, nat_lt}
use Rattle.std.specs.List.{All, list_all}
use Rattle.std.specs.Option.{is_none}
use Rattle.std.proofs.lemmas.Bool.{and_from, and_parts, leb-true, ltb-true}
use Rattle.std.proofs.lemmas.List.{append_assoc, append-nil}
use Rattle.std.proofs.lemmas.List.Elements.{All-cons, All-nil}
use Rattle.profile_model.specs.LabelSets.{AreProfileLabels, IsLabel, Label, is_label_name}
use Rattle.profile_model.specs.Sums.{Sample}
use Rattle.segment_file.specs.declared.fault.ObjectFault.{ObjectFault}
use Rattle.segment_file.specs.Fields.{AreSound, Field, Fit, each_of}
use Rattle.segment_file.specs.Files.{FileProfile, label_fields, labels_fields, profile_fields, sample_fields}
use Rattle.segment_file.specs.ReadFields.{FileKind, alone, any_count, count_field, each_profile, few_labels, few_profiles, is_above_labels, is_label_value, is_next_name, is_part, judged, kind_fields, list_fields, time_field}
use Rattle.segment_file.specs.Reading.{Begins, BeginsCounted, CursorView, IsCut, Stopped, Took, numbers}
use Rattle.segment_file.proofs.ReadLemmas.{cut_field, number_field, sound_number, sound_text, stopped_count, stopped_item, stopped_list, stopped_within, took_both, took_list, took_nothing}

-- ---- types

-- at a part, those before it taken
pub kind_at : (first : List Field) (make : List ℕ → FileKind) (rest : List Field) → Fit rest → ((part : List ℕ) → kind_fields (make part) ≡ first ++ (alone (judged is_part) part ++ rest))
    → (p q : CursorView) (fault : ObjectFault) → Took first p q → Stopped (Begins (alone (judged is_part))) q fault → Stopped (Begins kind_fields) p fault
kind_at first make rest fits are p q fault took s =
    stopped_within (alone (judged is_part)) kind_fields make first (λ part. rest) (λ part. fits) are p q fault took s

pub time_cut : (c : CursorView) (fault : ObjectFault) → IsCut (numbers 8) c fault → Stopped (Begins (alone time_field)) c fault
time_cut c fault cut = cut_field (numbers 8) time_field c fault (number_field 8 (λ n. None)) cut

-- ---- profiles

-- a profile of which a file says this
abbrev profile_of : List Label → FileKind → ℕ → List Sample → FileProfile
profile_of labels kind ms values = record {
  labels = labels;
  name = kind.name;
  sample_type = kind.sample_type;
  sample_unit = kind.sample_unit;
  period_type = kind.period_type;
  period_unit = kind.period_unit;
  time_ms = ms;
  values = values;
}

abbrev pub no_kind : FileKind
no_kind = record { name = []; sample_type = []; sample_unit = []; period_type = []; period_unit = [] }

pub profile_at_labels : (c : CursorView) (fault : ObjectFault) → Stopped (Begins labels_fields) c fault → Stopped (Begins profile_fields) c fault
profile_at_labels c fault s =
    let rest = kind_fields no_kind ++ (alone time_field 0 ++ list_fields any_count sample_fields []) in
    stopped_within labels_fields profile_fields (λ labels. profile_of labels no_kind 0 []) [] (λ labels. rest) (λ labels. refl) (λ labels. refl) c c fault (took_nothing c) s

pub profile_at_kind : (labels : List Label) (p q : CursorView) (fault : ObjectFault) → Took (labels_fields labels) p q → Stopped (Begins kind_fields) q fault
    → Stopped (Begins profile_fields) p fault
profile_at_kind labels p q fault took s =
    let rest = alone time_field 0 ++ list_fields any_count sample_fields [] in
    stopped_within kind_fields profile_fields (λ kind. profile_of labels kind 0 []) (labels_fields labels) (λ kind. rest) (λ kind. refl) (λ kind. refl) p q fault took s

pub profile_at_time : (labels : List Label) (kind : FileKind) (p q r : CursorView) (fault : ObjectFault) → Took (labels_fields labels) p q → Took (kind_fields kind) q r
    → Stopped (Begins (alone time_field)) r fault → Stopped (Begins profile_fields) p fault
profile_at_time labels kind p q r fault first next s =
    let rest = list_fields any_count sample_fields [] in
    stopped_within (alone time_field) profile_fields (λ ms. profile_of labels kind ms []) (labels_fields labels ++ kind_fields kind) (λ ms. rest) (λ ms. refl)
    (λ ms. sym (append_assoc (labels_fields labels) (kind_fields kind) (alone time_field ms ++ rest))) p r fault (took_both (labels_fields labels) (kind_fields kind) p q r first next) s

pub profile_at_values : (labels : List Label) (kind : FileKind) (ms : ℕ) (p q r t : CursorView) (fault : ObjectFault) → Took (labels_fields labels) p q → Took (kind_fields kind) q r
    → Took (alone time_field ms) r t → Stopped (Begins (list_fields any_count sample_fields)) t fault → Stopped (Begins profile_fields) p fault
profile_at_values labels kind ms p q r t fault first next last s =
    let front = kind_fields kind ++ alone time_field ms in
    stopped_within (list_fields any_count sample_fields) profile_fields (λ values. profile_of labels kind ms values) (labels_fields labels ++ front) (λ values. []) (λ values. refl)
    (λ values. sym (append_assoc (labels_fields labels) front (list_fields any_count sample_fields values ++ [])
    ∙ ap (λ (l : List Field). labels_fields labels ++ (front ++ l)) (append-nil (list_fields any_count sample_fields values))))
    p t fault (took_both (labels_fields labels) front p q t first (took_both (kind_fields kind) (alone time_field ms) q r t next last)) s

pub profile_taken : (labels : List Label) (kind : FileKind) (ms : ℕ) (values : List Sample) (p q r t u : CursorView) → Took (labels_fields labels) p q → Took (kind_fields kind) q r
    → Took (alone time_field ms) r t → Took (list_fields any_count sample_fields values) t u → Took (profile_fields (profile_of labels kind ms values)) p u
profile_taken labels kind ms values p q r t u first next third last =
    let listed = list_fields any_count sample_fields values in
    took_both (labels_fields labels) (kind_fields kind ++ (alone time_field ms ++ listed)) p q u first
    (took_both (kind_fields kind) (alone time_field ms ++ listed) q r u next (took_both (alone time_field ms) listed r t u third last))

-- ---- what labels that were taken keep

pub label_from : (before : List Label) (label : Label) → AreSound (label_fields before label) → IsLabel label
label_from before label sound =
    let name = sound_text (is_next_name before) label.0 (alone (judged is_label_value) label.1) sound in
    let value = sound_text is_label_value label.1 [] name.2 in
    let sized = and_parts (nat_lt 0 (length label.1)) (nat_le (length label.1) 2048) value.0 in
    record {
      name = (and_parts (is_label_name label.0) (is_above_labels before label.0) name.0).0;
      value = (ltb-true 0 (length label.1) sized.0, leb-true (length label.1) 2048 sized.1);
    }

pub sound_parts : (fields others : List Field) → AreSound (fields ++ others) → AreSound fields × AreSound others
sound_parts [] others sound = (refl, sound)
sound_parts (field ∷ fields) others sound =
    let first = and_parts (is_none field.breaks) (list_all (λ (f : Field). is_none f.breaks) (fields ++ others)) sound in
    let rest = sound_parts fields others first.1 in
    (and_from (is_none field.breaks) (list_all (λ (f : Field). is_none f.breaks) fields) first.0 rest.0, rest.1)

are_labels : (before labels : List Label) → AreSound (each_of label_fields before labels) → All IsLabel labels
are_labels before [] sound = All-nil IsLabel
are_labels before (label ∷ labels) sound =
    let both = sound_parts (label_fields before label) (each_of label_fields (before ++ label ∷ []) labels) sound in
    All-cons IsLabel label labels (label_from before label both.0) (are_labels (before ++ label ∷ []) labels both.1)

pub profile_labels : (labels : List Label) → AreSound (labels_fields labels) → AreProfileLabels labels
profile_labels labels sound =
    let counted = sound_number 4 (length labels) (few_labels (length labels)) (each_of label_fields [] labels) sound in
    record { few = leb-true (length labels) 31 counted.0; each = are_labels [] labels counted.1 }

-- ---- lists of profiles

empty_profile_fits : (before : List FileProfile) → Fit (each_profile before (profile_of [] no_kind 0 []))
empty_profile_fits before = refl

pub profiles_at : (count : ℕ) (before : List FileProfile) (p q : CursorView) (fault : ObjectFault) → length before < count → Took (each_of each_profile [] before) p q
    → Stopped (Begins profile_fields) q fault → Stopped (BeginsCounted count each_profile) p fault
profiles_at count before p q fault short took s = stopped_item each_profile (profile_of [] no_kind 0 []) empty_profile_fits count before short p q fault took s

pub profiles_at_count : (c : CursorView) (fault : ObjectFault) → Stopped (Begins (alone (count_field few_profiles))) c fault
    → Stopped (Begins (list_fields few_profiles each_profile)) c fault
profiles_at_count c fault s = stopped_count few_profiles each_profile (profile_of [] no_kind 0 []) empty_profile_fits c fault s

pub profiles_stopped : (count : ℕ) (p q : CursorView) (fault : ObjectFault) → Took (alone (count_field few_profiles) count) p q → Stopped (BeginsCounted count each_profile) q fault
    → Stopped (Begins (list_fields few_profiles each_profile)) p fault
profiles_stopped count p q fault took s = stopped_list few_profiles each_profile count p q fault took s

pub profiles_taken : (count : ℕ) (profiles : List FileProfile) (p q r : CursorView) → Took (alone (count_field few_profiles) count) p q
    → (length profiles ≡ count) × Took (each_of each_profile [] profiles) q r → Took (list_fields few_profiles each_profile profiles) p r
profiles_taken count profiles p q r took read =
    took_list few_profiles each_profile profiles p q r (subst (λ (n : ℕ). Took (alone (count_field few_profiles) n) p q) (sym read.0) took) read.1

pub few_from : (count : ℕ) (p q : CursorView) → Took (alone (count_field few_profiles) count) p q → count ≤ 4096
few_from count p q took = leb-true count 4096 (sound_number 4 count (few_profiles count) [] took.sound).0
