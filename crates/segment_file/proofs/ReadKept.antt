-- Pushes whose file fits and breaks no rule are an object's.
use Rattle.std.proofs.Common.{◌≡◌, ◌&&◌, ℕ, ◌+◌, ◌<◌, ◌^◌, Bool, true, List, [], ◌∷◌, ◌++◌, length, drop, map, subst, sym, ap, ◌∙◌, arith}
use Rattle.std.specs.Prelude.{nat_le, nat_lt, sum_by}
use Rattle.std.specs.List.{All, AllByRecursion, list_all}
use Rattle.std.specs.List.Sorted.{IsStrictlySortedBy}
use Rattle.std.specs.Map.{keys_of, values_of}
use Rattle.std.specs.Ordering.{is_lt}
use Rattle.std.specs.declared.cmp.Ordering.{Ordering}
use Rattle.std.specs.declared.cmp.Ordering.TheVariants.{Less}
use Rattle.std.specs.Str.{IsUtf8, is_utf8}
use Rattle.std.proofs.lemmas.Bool.{and_parts, leb-true, ltb-true}
use Rattle.std.proofs.lemmas.List.{append_assoc, append-nil, length-map, map-append}
use Rattle.std.proofs.lemmas.List.Elements.{All-cons, All-nil}
use Rattle.std.proofs.lemmas.List.Folds.{list_all-append}
use Rattle.std.proofs.lemmas.List.Sums.{sum_by-append}
use Rattle.std.proofs.lemmas.Str.{IsUtf8-from_is_utf8}
use Rattle.profile_model.specs.LabelSets.{Label, is_label_name}
use Rattle.profile_model.specs.ReadKinds.{parts_in}
use Rattle.profile_model.specs.Stacks.{IsFrame, IsStack, name_cmp, stack_cmp}
use Rattle.profile_model.specs.Sums.{Sample, total_of}
use Rattle.profile_model.specs.TenantPlaces.{wrong_place}
use Rattle.profile_model.specs.declared.kind.ProfileType.{ProfileType}
use Rattle.profile_model.specs.declared.profile.Profile.{Profile}
use Rattle.profile_model.specs.declared.push.Push.{Push}
use Rattle.segment_file.specs.Fields.{AreSound, Fit, each_of}
use Rattle.segment_file.specs.Files.{FileProfile, FilePush, file_fields, frame_fields, is_frame, label_fields, labels_fields, mark_field, mark_of_objects, profile_fields, push_fields, sample_fields, stack_fields, value_field}
use Rattle.segment_file.specs.Objects.{IsObject, IsProfile, IsPush, file_of, profile_said, push_said}
use Rattle.segment_file.specs.ReadFields.{alone, any_count, each_profile, each_push, few_frames, few_profiles, hi_field, is_above_labels, is_above_stacks, is_label_value, is_next_name, is_part, is_tenant, judged, kind_fields, kind_said, list_fields, lo_field, time_field}
use Rattle.segment_file.proofs.FileLemmas.{nth_fits, others_fit}
use Rattle.segment_file.proofs.ReadFiles.{none_from}
use Rattle.segment_file.proofs.ReadLemmas.{sound_number, sound_text}
use Rattle.segment_file.proofs.ReadOrder.{is_above_all, less_from}
use Rattle.segment_file.proofs.ReadProfiles.{sound_parts}
use Rattle.segment_file.proofs.ReadStacks.{frame_from}
use Rattle.segment_file.proofs.SpellingLemmas.{Fit-append}

-- ---- keys that ascend

-- each is above those before it
abbrev Ascends : {K V : Type 0} → (K → K → Ordering) → List (K × V) → List (K × V) → Type 0
Ascends cmp before [] = Unit {0}
Ascends cmp before (item ∷ items) = (is_above_all cmp before item.0 ≡ true) × Ascends cmp (before ++ item ∷ []) items

below_later : {K V : Type 0} (cmp : K → K → Ordering) (before : List (K × V)) (x : K × V) (after items : List (K × V)) → Ascends cmp (before ++ x ∷ after) items
    → AllByRecursion (λ k. cmp x.0 k ≡ Less) (keys_of items)
below_later cmp before x after [] ascends = tt
below_later {K} {V} cmp before x after (item ∷ items) ascends =
    let test = λ (other : K × V). is_lt (cmp other.0 item.0) in
    let both = and_parts (list_all test before) (list_all test (x ∷ after)) (sym (list_all-append test before (x ∷ after)) ∙ ascends.0) in
    let here = and_parts (is_lt (cmp x.0 item.0)) (list_all test after) both.1 in (
      less_from (cmp x.0 item.0) here.0,
      below_later cmp before x (after ++ item ∷ []) items (subst (λ (l : List (K × V)). Ascends cmp l items) (append_assoc before (x ∷ after) (item ∷ [])) ascends.1),
    )

sorted_from : {K V : Type 0} (cmp : K → K → Ordering) (before items : List (K × V)) → Ascends cmp before items → IsStrictlySortedBy cmp (keys_of items)
unfolding IsStrictlySortedBy
sorted_from cmp before [] ascends = tt
sorted_from cmp before (item ∷ items) ascends = (below_later cmp before item [] items ascends.1, sorted_from cmp (before ++ item ∷ []) items ascends.1)

-- ---- labels

utf8 : (text : List ℕ) → is_utf8 text ≡ true → IsUtf8 text
utf8 text is = IsUtf8-from_is_utf8 text is

record LabelsKept (before labels : List Label) : Type 0 where
  ascends : Ascends name_cmp before labels
  names : All IsUtf8 (keys_of labels)
  values : All IsUtf8 (values_of labels)

labels_kept : (before labels : List Label) → AreSound (each_of label_fields before labels) → LabelsKept before labels
labels_kept before [] sound = record { ascends = tt; names = All-nil IsUtf8; values = All-nil IsUtf8 }
labels_kept before (label ∷ labels) sound =
    let both = sound_parts (label_fields before label) (each_of label_fields (before ++ label ∷ []) labels) sound in
    let name = sound_text (is_next_name before) label.0 (alone (judged is_label_value) label.1) both.0 in
    let value = sound_text is_label_value label.1 [] name.2 in
    let rest = labels_kept (before ++ label ∷ []) labels both.1 in
    record {
      ascends = ((and_parts (is_label_name label.0) (is_above_labels before label.0) name.0).1, rest.ascends);
      names = All-cons IsUtf8 label.0 (keys_of labels) (utf8 label.0 name.1) rest.names;
      values = All-cons IsUtf8 label.1 (values_of labels) (utf8 label.1 value.1) rest.values;
    }

-- ---- stacks

record FramesKept (ordered : Bool) (frames : List (List ℕ)) : Type 0 where
  each : All IsFrame frames
  texts : All IsUtf8 frames
  order : 0 < length frames → ordered ≡ true

frames_kept : (ordered : Bool) (frames : List (List ℕ)) → AreSound (frame_fields ordered frames) → FramesKept ordered frames
frames_kept ordered [] sound = record { each = All-nil IsFrame; texts = All-nil IsUtf8; order = λ some. absurd (omega (arith, some)) }
frames_kept ordered (frame ∷ []) sound =
    let here = sound_text (λ frame. is_frame frame && ordered) frame [] sound in
    let both = and_parts (is_frame frame) ordered here.0 in
    record {
      each = All-cons IsFrame frame [] (frame_from frame both.0) (All-nil IsFrame);
      texts = All-cons IsUtf8 frame [] (utf8 frame here.1) (All-nil IsUtf8);
      order = λ some. both.1;
    }
frames_kept ordered (frame ∷ next ∷ deeper) sound =
    let here = sound_text is_frame frame (frame_fields ordered (next ∷ deeper)) sound in
    let rest = frames_kept ordered (next ∷ deeper) here.2 in
    record {
      each = All-cons IsFrame frame (next ∷ deeper) (frame_from frame here.0) rest.each;
      texts = All-cons IsUtf8 frame (next ∷ deeper) (utf8 frame here.1) rest.texts;
      order = λ some. rest.order (omega arith);
    }

record StackKept (before : List Sample) (stack : List (List ℕ)) : Type 0 where
  limits : IsStack stack
  texts : All IsUtf8 stack
  order : is_above_stacks before stack ≡ true

stack_kept : (before : List Sample) (stack : List (List ℕ)) → AreSound (stack_fields before stack) → StackKept before stack
stack_kept before stack sound =
    let counted = sound_number 4 (length stack) (few_frames (length stack)) (frame_fields (is_above_stacks before stack) stack) sound in
    let sized = and_parts (nat_lt 0 (length stack)) (nat_le (length stack) 1024) counted.0 in
    let frames = frames_kept (is_above_stacks before stack) stack counted.1 in
    let some = ltb-true 0 (length stack) sized.0 in
    record {
      limits = record { some = some; few = leb-true (length stack) 1024 sized.1; each = frames.each };
      texts = frames.texts;
      order = frames.order some;
    }

-- ---- values

total-push : (before : List Sample) (sample : Sample) → total_of (before ++ sample ∷ []) ≡ total_of before + sample.1
total-push before sample =
    ap (λ (l : List ℕ). sum_by (λ value. value) l) (map-append (λ (s : Sample). s.1) before (sample ∷ [])) ∙ sum_by-append (λ value. value) (values_of before) (sample.1 ∷ []) ∙ omega arith

record SamplesKept (before samples : List Sample) : Type 0 where
  ascends : Ascends stack_cmp before samples
  positive : All (λ value. 0 < value) (values_of samples)
  bounded : total_of (before ++ samples) < 2 ^ 63
  stacks : All IsStack (keys_of samples)
  texts : All (All IsUtf8) (keys_of samples)

samples_kept : (before samples : List Sample) → total_of before < 2 ^ 63 → AreSound (each_of sample_fields before samples) → SamplesKept before samples
samples_kept before [] low sound = record {
  ascends = tt;
  positive = All-nil (λ value. 0 < value);
  bounded = subst (λ (l : List Sample). total_of l < 2 ^ 63) (sym (append-nil before)) low;
  stacks = All-nil IsStack;
  texts = All-nil (All IsUtf8);
}
samples_kept before (sample ∷ samples) low sound =
    let both = sound_parts (sample_fields before sample) (each_of sample_fields (before ++ sample ∷ []) samples) sound in
    let parts = sound_parts (stack_fields before sample.0) (alone (value_field before) sample.1) both.0 in
    let stack = stack_kept before sample.0 parts.0 in
    let value = sound_number 8 sample.1 (nat_lt 0 sample.1 && nat_lt (total_of before + sample.1) (2 ^ 63)) [] parts.1 in
    let sized = and_parts (nat_lt 0 sample.1) (nat_lt (total_of before + sample.1) (2 ^ 63)) value.0 in
    let next : total_of (before ++ sample ∷ []) < 2 ^ 63 = omega (arith, total-push before sample, ltb-true (total_of before + sample.1) (2 ^ 63) sized.1) in
    let rest = samples_kept (before ++ sample ∷ []) samples next both.1 in
    record {
      ascends = (stack.order, rest.ascends);
      positive = All-cons (λ value. 0 < value) sample.1 (values_of samples) (ltb-true 0 sample.1 sized.0) rest.positive;
      bounded = subst (λ (l : List Sample). total_of l < 2 ^ 63) (append_assoc before (sample ∷ []) samples) rest.bounded;
      stacks = All-cons IsStack sample.0 (keys_of samples) stack.limits rest.stacks;
      texts = All-cons (All IsUtf8) sample.0 (keys_of samples) stack.texts rest.texts;
    }

-- ---- profiles and pushes

parts_kept : (kind : ProfileType) → IsUtf8 kind.name → IsUtf8 kind.sample_type → IsUtf8 kind.sample_unit → IsUtf8 kind.period_type → IsUtf8 kind.period_unit
    → All IsUtf8 (parts_in kind)
parts_kept kind name sample_type sample_unit period_type period_unit =
    let fifth = All-cons IsUtf8 kind.period_unit [] period_unit (All-nil IsUtf8) in
    let fourth = All-cons IsUtf8 kind.period_type (kind.period_unit ∷ []) period_type fifth in
    let third = All-cons IsUtf8 kind.sample_unit (kind.period_type ∷ kind.period_unit ∷ []) sample_unit fourth in
    let second = All-cons IsUtf8 kind.sample_type (kind.sample_unit ∷ kind.period_type ∷ kind.period_unit ∷ []) sample_type third in
    All-cons IsUtf8 kind.name (kind.sample_type ∷ kind.sample_unit ∷ kind.period_type ∷ kind.period_unit ∷ []) name second

profile_kept : (profile : Profile) → Fit (profile_fields (profile_said profile)) → AreSound (profile_fields (profile_said profile)) → IsProfile profile
profile_kept profile fit sound =
    let kind = profile.kind in
    let values = list_fields any_count sample_fields profile.values in
    let behind = kind_fields (kind_said kind) ++ (alone time_field profile.time_ms ++ values) in
    let both = sound_parts (labels_fields profile.labels) behind sound in
    let labels = labels_kept [] profile.labels (sound_number 4 (length profile.labels) (nat_le (length profile.labels) 31) (each_of label_fields [] profile.labels) both.0).1 in
    let name = sound_text is_part kind.name (drop 1 behind) both.1 in
    let sample_type = sound_text is_part kind.sample_type (drop 2 behind) name.2 in
    let sample_unit = sound_text is_part kind.sample_unit (drop 3 behind) sample_type.2 in
    let period_type = sound_text is_part kind.period_type (drop 4 behind) sample_unit.2 in
    let period_unit = sound_text is_part kind.period_unit (drop 5 behind) period_type.2 in
    let timed = sound_parts (alone time_field profile.time_ms) values period_unit.2 in
    let counted = sound_number 4 (length profile.values) true (each_of sample_fields [] profile.values) timed.1 in
    let samples = samples_kept [] profile.values (omega arith) counted.1 in
    let fits = nth_fits 5 behind (Fit-append (labels_fields profile.labels) behind fit).1 in
    record {
      ascending = sorted_from name_cmp [] profile.labels labels.ascends;
      labels = profile.labelled;
      time = ltb-true profile.time_ms (256 ^ 8) fits;
      sums = record { ascending = sorted_from stack_cmp [] profile.values samples.ascends; positive = samples.positive; bounded = samples.bounded };
      stacks = samples.stacks;
      texts = record {
        names = labels.names;
        values = labels.values;
        parts =
            parts_kept kind (utf8 kind.name name.1) (utf8 kind.sample_type sample_type.1) (utf8 kind.sample_unit sample_unit.1) (utf8 kind.period_type period_type.1)
            (utf8 kind.period_unit period_unit.1);
        frames = samples.texts;
      };
    }

profiles_kept : (before : List FileProfile) (profiles : List Profile) → Fit (each_of each_profile before (map profile_said profiles))
    → AreSound (each_of each_profile before (map profile_said profiles)) → All IsProfile profiles
profiles_kept before [] fit sound = All-nil IsProfile
profiles_kept before (profile ∷ profiles) fit sound =
    let said = profile_said profile in
    let later = each_of each_profile (before ++ said ∷ []) (map profile_said profiles) in
    let fits = Fit-append (profile_fields said) later fit in
    let both = sound_parts (profile_fields said) later sound in
    All-cons IsProfile profile profiles (profile_kept profile fits.0 both.0) (profiles_kept (before ++ said ∷ []) profiles fits.1 both.1)

push_kept : (push : Push) → Fit (push_fields (push_said push)) → AreSound (push_fields (push_said push)) → IsPush push
push_kept push fit sound =
    let profiles = map profile_said push.profiles in
    let listed = list_fields few_profiles each_profile profiles in
    let tenant = sound_text is_tenant push.tenant listed sound in
    let counted = sound_number 4 (length profiles) (few_profiles (length profiles)) (each_of each_profile [] profiles) tenant.2 in
    record {
      tenant = none_from (wrong_place push.tenant) tenant.0;
      few = omega (arith, leb-true (length profiles) 4096 counted.0, length-map push.profiles profile_said);
      each = profiles_kept [] push.profiles (others_fit 2 (push_fields (push_said push)) fit) counted.1;
    }

pushes_kept : (before : List FilePush) (pushes : List Push) → Fit (each_of each_push before (map push_said pushes)) → AreSound (each_of each_push before (map push_said pushes))
    → All IsPush pushes
pushes_kept before [] fit sound = All-nil IsPush
pushes_kept before (push ∷ pushes) fit sound =
    let said = push_said push in
    let later = each_of each_push (before ++ said ∷ []) (map push_said pushes) in
    let fits = Fit-append (push_fields said) later fit in
    let both = sound_parts (push_fields said) later sound in
    All-cons IsPush push pushes (push_kept push fits.0 both.0) (pushes_kept (before ++ said ∷ []) pushes fits.1 both.1)

pub object_kept : (lo : ℕ) (pushes : List Push) → lo < lo + length pushes → Fit (file_fields (file_of lo pushes)) → AreSound (file_fields (file_of lo pushes)) → IsObject lo pushes
object_kept lo pushes some fit sound =
    let hi = lo + length pushes in
    let head = mark_field mark_of_objects ∷ lo_field lo ∷ hi_field lo hi ∷ [] in
    let each = each_of each_push [] (map push_said pushes) in
    record {
      some = λ none. absurd (omega (arith, some, ap length none));
      within = ltb-true hi (256 ^ 8) (nth_fits 2 (file_fields (file_of lo pushes)) fit);
      each = pushes_kept [] pushes (others_fit 3 (file_fields (file_of lo pushes)) fit) (sound_parts head each sound).1;
      fit = fit;
    }
