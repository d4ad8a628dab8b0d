-- No field of an object's file breaks a rule.
use Rattle.std.proofs.Common.{◌≡◌, ◌&&◌, ℕ, ◌+◌, ◌<◌, ◌≤◌, ◌^◌, Bool, true, List, [], ◌∷◌, ◌++◌, length, map, None, ◌≢◌, refl, ap, ◌∙◌, arith}
use Rattle.std.specs.Prelude.{nat_le, nat_lt, not, sum_by}
use Rattle.std.specs.List.{All, AllByRecursion, list_all}
use Rattle.std.specs.List.Sorted.{IsStrictlySortedBy}
use Rattle.std.specs.Map.{keys_of, values_of}
use Rattle.std.specs.Option.{is_none}
use Rattle.std.specs.Ordering.{is_lt}
use Rattle.std.specs.declared.cmp.Ordering.{Ordering}
use Rattle.std.specs.declared.cmp.Ordering.TheVariants.{Less}
use Rattle.std.specs.Str.{IsUtf8, is_utf8}
use Rattle.std.proofs.lemmas.Bool.{and_from, le-leb, lt-ltb}
use Rattle.std.proofs.lemmas.List.Elements.{recursion_from_All}
use Rattle.std.proofs.lemmas.List.Folds.{list_all-append}
use Rattle.std.proofs.lemmas.List.Sums.{sum_by-append}
use Rattle.std.proofs.lemmas.List.{length-map, map-append}
use Rattle.std.proofs.lemmas.Map.Keys.{sorted_head, sorted_tail}
use Rattle.std.proofs.lemmas.Str.{is_utf8-from_IsUtf8}
use Rattle.profile_model.specs.Kinds.{is_colon}
use Rattle.profile_model.specs.LabelSets.{IsLabel, Label, is_label_name}
use Rattle.profile_model.specs.ReadKinds.{parts_in}
use Rattle.profile_model.specs.Stacks.{IsFrame, IsStack, name_cmp, stack_cmp}
use Rattle.profile_model.specs.Sums.{Sample, total_of}
use Rattle.profile_model.specs.TenantPlaces.{wrong_place}
use Rattle.profile_model.specs.declared.profile.Profile.{Profile}
use Rattle.profile_model.specs.declared.push.Push.{Push}
use Rattle.segment_file.specs.declared.fault.ObjectRule.{ObjectRule}
use Rattle.segment_file.specs.declared.fault.ObjectRule.TheVariants.{Content, Form}
use Rattle.segment_file.specs.Fields.{AreSound, Field, each_of, listed, number, text_of, unless}
use Rattle.segment_file.specs.Files.{FileProfile, FilePush, file_fields, frame_fields, is_frame, label_fields, labels_fields, part_field, profile_fields, push_fields, sample_fields, stack_fields, value_field}
use Rattle.segment_file.specs.Decoded.{IsBroken, Spells}
use Rattle.segment_file.proofs.FaultLemmas.{whole_unbroken}
use Rattle.segment_file.proofs.ObjectLemmas.{file_is}
use Rattle.segment_file.proofs.TenantLemmas.{tenant_utf8}
use Rattle.segment_file.specs.Objects.{IsObject, ObjectView, IsProfile, IsPush, file_of, profile_said, push_said}

-- ---- one field

kept : (sound : Bool) (rule : ObjectRule) → sound ≡ true → is_none (unless sound rule) ≡ true
kept sound rule is = ap (λ (b : Bool). is_none (unless b rule)) is

text_kept : (text : List ℕ) (sound : Bool) → sound ≡ true → IsUtf8 text → is_none (text_of text sound).breaks ≡ true
text_kept text sound is utf8 = kept (sound && is_utf8 text) Content (and_from sound (is_utf8 text) is (is_utf8-from_IsUtf8 text utf8))

sound_cons : (field : Field) (fields : List Field) → is_none field.breaks ≡ true → AreSound fields → AreSound (field ∷ fields)
sound_cons field fields is sound = and_from (is_none field.breaks) (list_all (λ (f : Field). is_none f.breaks) fields) is sound

sound_append : (fields others : List Field) → AreSound fields → AreSound others → AreSound (fields ++ others)
sound_append fields others sound also =
    list_all-append (λ (f : Field). is_none f.breaks) fields others ∙ and_from (list_all (λ (f : Field). is_none f.breaks) fields) (list_all (λ (f : Field). is_none f.breaks) others) sound also

-- ---- keys in order

-- each key before is below this one
abbrev is_above : {K V : Type 0} → (K → K → Ordering) → List (K × V) → K → Bool
is_above cmp before key = list_all (λ other. is_lt (cmp other.0 key)) before

above_nothing : {K V : Type 0} (cmp : K → K → Ordering) (items : List (K × V)) → AllByRecursion (λ item. is_above {V = V} cmp [] item.0 ≡ true) items
above_nothing cmp [] = tt
above_nothing cmp (item ∷ items) = (refl, above_nothing cmp items)

above_next : {K V : Type 0} (cmp : K → K → Ordering) (before : List (K × V)) (first : K × V) (items : List (K × V))
    → AllByRecursion (λ item. is_above cmp before item.0 ≡ true) items → AllByRecursion (λ key. cmp first.0 key ≡ Less) (keys_of items)
    → AllByRecursion (λ item. is_above cmp (before ++ first ∷ []) item.0 ≡ true) items
above_next cmp before first [] above low = tt
above_next {K} {V} cmp before first (item ∷ items) above low = (
  list_all-append (λ (other : K × V). is_lt (cmp other.0 item.0)) before (first ∷ [])
      ∙ and_from (is_above cmp before item.0) (is_lt (cmp first.0 item.0) && true) above.0 (and_from (is_lt (cmp first.0 item.0)) true (ap is_lt low.0) refl),
  above_next cmp before first items above.1 low.1,
)

-- ---- labels

labels_sound : (before labels : List Label) → AllByRecursion IsLabel labels → AllByRecursion IsUtf8 (keys_of labels) → AllByRecursion IsUtf8 (values_of labels)
    → IsStrictlySortedBy name_cmp (keys_of labels) → AllByRecursion (λ label. is_above name_cmp before label.0 ≡ true) labels → AreSound (each_of label_fields before labels)
labels_sound before [] each names values ascending above = refl
labels_sound before (label ∷ labels) each names values ascending above =
    let name = text_kept label.0 (is_label_name label.0 && is_above name_cmp before label.0) (and_from (is_label_name label.0) (is_above name_cmp before label.0) each.0.name above.0) names.0 in
    let value = text_kept label.1 (nat_lt 0 (length label.1) && nat_le (length label.1) 2048)
    (and_from (nat_lt 0 (length label.1)) (nat_le (length label.1) 2048) (lt-ltb 0 (length label.1) each.0.value.0) (le-leb (length label.1) 2048 each.0.value.1)) values.0 in
    sound_append (label_fields before label) (each_of label_fields (before ++ label ∷ []) labels)
    (sound_cons (text_of label.0 (is_label_name label.0 && is_above name_cmp before label.0)) (text_of label.1 (nat_lt 0 (length label.1) && nat_le (length label.1) 2048) ∷ []) name (sound_cons (text_of label.1 (nat_lt 0 (length label.1) && nat_le (length label.1) 2048)) [] value refl))
    (labels_sound (before ++ label ∷ []) labels each.1 names.1 values.1 (sorted_tail name_cmp label.0 (keys_of labels) ascending)
    (above_next name_cmp before label labels above.1 (sorted_head name_cmp label.0 (keys_of labels) ascending)))

-- ---- stacks and values

frame_kept : (frame : List ℕ) (ordered : Bool) → IsFrame frame → ordered ≡ true → is_frame frame && ordered ≡ true
frame_kept frame ordered is above = and_from (is_frame frame) ordered (and_from (nat_lt 0 (length frame)) (nat_le (length frame) 65535) (lt-ltb 0 (length frame) is.0) (le-leb (length frame) 65535 is.1)) above

frames_sound : (ordered : Bool) (frames : List (List ℕ)) → ordered ≡ true → AllByRecursion IsFrame frames → AllByRecursion IsUtf8 frames → AreSound (frame_fields ordered frames)
frames_sound ordered [] above each utf8 = refl
frames_sound ordered (frame ∷ []) above each utf8 =
    sound_cons (text_of frame (is_frame frame && ordered)) [] (text_kept frame (is_frame frame && ordered) (frame_kept frame ordered each.0 above) utf8.0) refl
frames_sound ordered (frame ∷ next ∷ deeper) above each utf8 =
    sound_cons (text_of frame (is_frame frame)) (frame_fields ordered (next ∷ deeper))
    (text_kept frame (is_frame frame) (and_from (nat_lt 0 (length frame)) (nat_le (length frame) 65535) (lt-ltb 0 (length frame) each.0.0) (le-leb (length frame) 65535 each.0.1)) utf8.0)
    (frames_sound ordered (next ∷ deeper) above each.1 utf8.1)

stack_sound : (before : List Sample) (stack : List (List ℕ)) → is_above stack_cmp before stack ≡ true → IsStack stack → AllByRecursion IsUtf8 stack → AreSound (stack_fields before stack)
stack_sound before stack above is utf8 =
    sound_cons (number 4 (length stack) (unless (nat_lt 0 (length stack) && nat_le (length stack) 1024) Content)) (frame_fields (is_above stack_cmp before stack) stack)
    (kept (nat_lt 0 (length stack) && nat_le (length stack) 1024) Content (and_from (nat_lt 0 (length stack)) (nat_le (length stack) 1024) (lt-ltb 0 (length stack) is.some) (le-leb (length stack) 1024 is.few)))
    (frames_sound (is_above stack_cmp before stack) stack above (recursion_from_All IsFrame stack is.each) utf8)

total-append : (before : List Sample) (sample : Sample) → total_of (before ++ sample ∷ []) ≡ total_of before + sample.1
total-append before sample =
    ap (λ (l : List ℕ). sum_by (λ value. value) l) (map-append (λ (s : Sample). s.1) before (sample ∷ [])) ∙ sum_by-append (λ value. value) (values_of before) (sample.1 ∷ []) ∙ omega arith

samples_sound : (before samples : List Sample) → AllByRecursion IsStack (keys_of samples) → AllByRecursion (λ stack. All IsUtf8 stack) (keys_of samples)
    → AllByRecursion (λ value. 0 < value) (values_of samples) → total_of before + total_of samples < 2 ^ 63
    → IsStrictlySortedBy stack_cmp (keys_of samples) → AllByRecursion (λ sample. is_above stack_cmp before sample.0 ≡ true) samples → AreSound (each_of sample_fields before samples)
samples_sound before [] stacks utf8 positive bounded ascending above = refl
samples_sound before (sample ∷ samples) stacks utf8 positive bounded ascending above =
    let stack = stack_sound before sample.0 above.0 stacks.0 (recursion_from_All IsUtf8 sample.0 utf8.0) in
    let all : total_of (sample ∷ samples) ≡ sample.1 + total_of samples = sum_by-append (λ value. value) (sample.1 ∷ []) (values_of samples) ∙ omega arith in
    let within : total_of before + sample.1 < 2 ^ 63 = omega (arith, bounded, all) in
    let value = kept (nat_lt 0 sample.1 && nat_lt (total_of before + sample.1) (2 ^ 63)) Content
    (and_from (nat_lt 0 sample.1) (nat_lt (total_of before + sample.1) (2 ^ 63)) (lt-ltb 0 sample.1 positive.0) (lt-ltb (total_of before + sample.1) (2 ^ 63) within)) in
    let next : total_of (before ++ sample ∷ []) + total_of samples < 2 ^ 63 = omega (arith, bounded, all, total-append before sample) in
    sound_append (sample_fields before sample) (each_of sample_fields (before ++ sample ∷ []) samples)
    (sound_append (stack_fields before sample.0) (value_field before sample.1 ∷ []) stack (sound_cons (value_field before sample.1) [] value refl))
    (samples_sound (before ++ sample ∷ []) samples stacks.1 utf8.1 positive.1 next (sorted_tail stack_cmp sample.0 (keys_of samples) ascending)
    (above_next stack_cmp before sample samples above.1 (sorted_head stack_cmp sample.0 (keys_of samples) ascending)))

-- ---- profiles and pushes

part_kept : (part : List ℕ) → list_all (λ b. not (is_colon b)) part ≡ true → IsUtf8 part → is_none (part_field part).breaks ≡ true
part_kept part is utf8 = text_kept part (list_all (λ b. not (is_colon b)) part) is utf8

profile_sound : (profile : Profile) → IsProfile profile → AreSound (profile_fields (profile_said profile))
profile_sound profile is =
    let labels = sound_cons (number 4 (length profile.labels) (unless (nat_le (length profile.labels) 31) Content)) (each_of label_fields [] profile.labels)
    (kept (nat_le (length profile.labels) 31) Content (le-leb (length profile.labels) 31 is.labels.few))
    (labels_sound [] profile.labels (recursion_from_All IsLabel profile.labels is.labels.each) (recursion_from_All IsUtf8 (keys_of profile.labels) is.texts.names)
    (recursion_from_All IsUtf8 (values_of profile.labels) is.texts.values) is.ascending (above_nothing name_cmp profile.labels)) in
    let texts = recursion_from_All IsUtf8 (parts_in profile.kind) is.texts.parts in
    let values = sound_cons (number 4 (length profile.values) (unless true Content)) (each_of sample_fields [] profile.values) refl
    (samples_sound [] profile.values (recursion_from_All IsStack (keys_of profile.values) is.stacks) (recursion_from_All (λ stack. All IsUtf8 stack) (keys_of profile.values) is.texts.frames)
    (recursion_from_All (λ value. 0 < value) (values_of profile.values) is.sums.positive) (omega (arith, is.sums.bounded)) is.sums.ascending (above_nothing stack_cmp profile.values)) in
    let counted = listed true sample_fields profile.values in
    let timed = number 8 profile.time_ms None ∷ counted in
    let fifth = part_field profile.kind.period_unit ∷ timed in
    let fourth = part_field profile.kind.period_type ∷ fifth in
    let third = part_field profile.kind.sample_unit ∷ fourth in
    let second = part_field profile.kind.sample_type ∷ third in
    sound_append (labels_fields profile.labels) (part_field profile.kind.name ∷ second) labels
    (sound_cons (part_field profile.kind.name) second (part_kept profile.kind.name profile.kind.parts.0 texts.0)
    (sound_cons (part_field profile.kind.sample_type) third (part_kept profile.kind.sample_type profile.kind.parts.1 texts.1.0)
    (sound_cons (part_field profile.kind.sample_unit) fourth (part_kept profile.kind.sample_unit profile.kind.parts.2 texts.1.1.0)
    (sound_cons (part_field profile.kind.period_type) fifth (part_kept profile.kind.period_type profile.kind.parts.3 texts.1.1.1.0)
    (sound_cons (part_field profile.kind.period_unit) timed (part_kept profile.kind.period_unit profile.kind.parts.4 texts.1.1.1.1.0)
    (sound_cons (number 8 profile.time_ms None) counted refl values))))))

profiles_sound : (before : List FileProfile) (profiles : List Profile) → AllByRecursion IsProfile profiles
    → AreSound (each_of (λ before profile. profile_fields profile) before (map profile_said profiles))
profiles_sound before [] each = refl
profiles_sound before (profile ∷ profiles) each =
    sound_append (profile_fields (profile_said profile)) (each_of (λ before profile. profile_fields profile) (before ++ profile_said profile ∷ []) (map profile_said profiles))
    (profile_sound profile each.0) (profiles_sound (before ++ profile_said profile ∷ []) profiles each.1)

push_sound : (push : Push) → IsPush push → AreSound (push_fields (push_said push))
push_sound push is =
    let profiles = map profile_said push.profiles in
    let few = nat_le (length profiles) 4096 in
    let count : length profiles ≤ 4096 = omega (arith, is.few, length-map push.profiles profile_said) in
    sound_cons (text_of push.tenant (is_none (wrong_place push.tenant))) (listed few (λ before profile. profile_fields profile) profiles)
    (text_kept push.tenant (is_none (wrong_place push.tenant)) (ap is_none is.tenant) (tenant_utf8 push.tenant is.tenant))
    (sound_cons (number 4 (length profiles) (unless few Content)) (each_of (λ before profile. profile_fields profile) [] profiles)
    (kept few Content (le-leb (length profiles) 4096 count)) (profiles_sound [] push.profiles (recursion_from_All IsProfile push.profiles is.each)))

pushes_sound : (before : List FilePush) (pushes : List Push) → AllByRecursion IsPush pushes
    → AreSound (each_of (λ before push. push_fields push) before (map push_said pushes))
pushes_sound before [] each = refl
pushes_sound before (push ∷ pushes) each =
    sound_append (push_fields (push_said push)) (each_of (λ before push. push_fields push) (before ++ push_said push ∷ []) (map push_said pushes))
    (push_sound push each.0) (pushes_sound (before ++ push_said push ∷ []) pushes each.1)

rises : (lo : ℕ) (pushes : List Push) → pushes ≢ [] → lo < lo + length pushes
rises lo [] some = absurd (some refl)
rises lo (push ∷ pushes) some = omega arith

pub objects_are_sound : (lo : ℕ) (pushes : List Push) → IsObject lo pushes → AreSound (file_fields (file_of lo pushes))
objects_are_sound lo pushes is =
    let hi = lo + length pushes in
    let ordered = nat_lt lo hi in
    sound_cons (number 8 hi (unless ordered Form)) (each_of (λ before push. push_fields push) [] (map push_said pushes))
    (kept ordered Form (lt-ltb lo hi (rises lo pushes is.some))) (pushes_sound [] pushes (recursion_from_All IsPush pushes is.each))

pub object_unbroken : (bytes : List ℕ) (object : ObjectView) (rule : ObjectRule) (at : ℕ) → Spells bytes object → IsBroken bytes rule at → ⊥
object_unbroken bytes object rule at spells broken =
    whole_unbroken bytes (file_of object.lo object.pushes) rule at (file_is object.lo object.pushes spells.whole) (objects_are_sound object.lo object.pushes spells.whole) spells.spelled broken
