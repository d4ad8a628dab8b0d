-- Light pushes have room for their numbers and lengths.
use Rattle.std.proofs.Common.{◌≡◌, ◌&&◌, ℕ, ◌+◌, get_or, ◌<◌, ◌≤◌, ◌^◌, Bool, true, List, [], ◌∷◌, ◌++◌, length, map, None, refl, ◌∙◌, arith}
use Rattle.std.specs.Prelude.{nat_le, nat_lt, sum_by}
use Rattle.std.specs.List.{All, AllByRecursion, list_all}
use Rattle.std.specs.Map.{keys_of, values_of}
use Rattle.std.specs.Option.{is_none}
use Rattle.std.proofs.lemmas.Bool.{and_from, lt-ltb}
use Rattle.std.proofs.lemmas.List.Elements.{recursion_from_All}
use Rattle.std.proofs.lemmas.List.Folds.{list_all-append}
use Rattle.std.proofs.lemmas.List.Sums.{get_or-le-sum_by, sum_by-cons}
use Rattle.std.proofs.lemmas.List.{length-map}
use Rattle.profile_model.specs.LabelSets.{Label}
use Rattle.profile_model.specs.ReadKinds.{parts_in}
use Rattle.profile_model.specs.Stacks.{IsFrame, IsStack}
use Rattle.profile_model.specs.Sums.{Sample, total_of}
use Rattle.profile_model.specs.TenantPlaces.{wrong_place}
use Rattle.profile_model.specs.Weights.{label_weight, profile_weight, push_weight, stack_weight}
use Rattle.profile_model.specs.declared.profile.Profile.{Profile}
use Rattle.profile_model.specs.declared.push.Push.{Push}
use Rattle.segment_file.specs.Fields.{Field, Fit, each_of, listed, number, text_of, unless}
use Rattle.segment_file.specs.declared.fault.ObjectRule.TheVariants.{Content}
use Rattle.segment_file.specs.Files.{FileProfile, FilePush, file_fields, frame_fields, label_fields, labels_fields, part_field, profile_fields, push_fields, sample_fields, stack_fields, value_field}
use Rattle.segment_file.specs.Laws.{IsLight}
use Rattle.segment_file.specs.Objects.{IsProfile, IsPush, file_of, profile_said, push_said}
use Rattle.segment_file.proofs.TenantLemmas.{tenant_few}

room_cons : (field : Field) (fields : List Field) → field.fits ≡ true → Fit fields → Fit (field ∷ fields)
room_cons field fields is fit = and_from field.fits (list_all (λ (f : Field). f.fits) fields) is fit

room_append : (fields others : List Field) → Fit fields → Fit others → Fit (fields ++ others)
room_append fields others fit also =
    list_all-append (λ (f : Field). f.fits) fields others ∙ and_from (list_all (λ (f : Field). f.fits) fields) (list_all (λ (f : Field). f.fits) others) fit also

four_fit : (n : ℕ) → n ≤ 268435456 → nat_lt n (256 ^ 4) ≡ true
four_fit n low = lt-ltb n (256 ^ 4) (omega (arith, low))

eight_fit : (n : ℕ) → n < 2 ^ 64 → nat_lt n (256 ^ 8) ≡ true
eight_fit n low = lt-ltb n (256 ^ 8) (omega (arith, low))

-- ---- labels

-- a name and a value that have room
abbrev HasLabelRoom : Label → Type 0
HasLabelRoom label = (length label.0 ≤ 268435456) × (length label.1 ≤ 268435456)

light_labels : (labels : List Label) → sum_by label_weight labels ≤ 268435456 → AllByRecursion HasLabelRoom labels
light_labels [] light = tt
light_labels (label ∷ labels) light =
    let all = sum_by-cons label_weight label labels in ((omega (arith, light, all), omega (arith, light, all)), light_labels labels (omega (arith, light, all)))

labels_room : (before labels : List Label) → AllByRecursion HasLabelRoom labels → Fit (each_of label_fields before labels)
labels_room before [] each = refl
labels_room before (label ∷ labels) each =
    room_append (label_fields before label) (each_of label_fields (before ++ label ∷ []) labels)
    (and_from (nat_lt (length label.0) (256 ^ 4)) (nat_lt (length label.1) (256 ^ 4) && true) (four_fit (length label.0) each.0.0)
    (and_from (nat_lt (length label.1) (256 ^ 4)) true (four_fit (length label.1) each.0.1) refl))
    (labels_room (before ++ label ∷ []) labels each.1)

-- ---- stacks and values

frames_room : (ordered : Bool) (frames : List (List ℕ)) → AllByRecursion IsFrame frames → Fit (frame_fields ordered frames)
frames_room ordered [] each = refl
frames_room ordered (frame ∷ []) each = and_from (nat_lt (length frame) (256 ^ 4)) true (four_fit (length frame) (omega (arith, each.0.1))) refl
frames_room ordered (frame ∷ next ∷ deeper) each =
    and_from (nat_lt (length frame) (256 ^ 4)) (list_all (λ (f : Field). f.fits) (frame_fields ordered (next ∷ deeper))) (four_fit (length frame) (omega (arith, each.0.1)))
    (frames_room ordered (next ∷ deeper) each.1)

samples_room : (before samples : List Sample) → AllByRecursion IsStack (keys_of samples) → total_of samples < 2 ^ 63 → Fit (each_of sample_fields before samples)
samples_room before [] stacks bounded = refl
samples_room before (sample ∷ samples) stacks bounded =
    let all : total_of (sample ∷ samples) ≡ sample.1 + total_of samples = sum_by-cons (λ value. value) sample.1 (values_of samples) in
    room_append (sample_fields before sample) (each_of sample_fields (before ++ sample ∷ []) samples)
    (room_append (stack_fields before sample.0) (value_field before sample.1 ∷ [])
    (and_from (nat_lt (length sample.0) (256 ^ 4)) _ (four_fit (length sample.0) (omega (arith, stacks.0.few))) (frames_room _ sample.0 (recursion_from_All IsFrame sample.0 stacks.0.each)))
    (and_from (nat_lt sample.1 (256 ^ 8)) true (eight_fit sample.1 (omega (arith, bounded, all))) refl))
    (samples_room (before ++ sample ∷ []) samples stacks.1 (omega (arith, bounded, all)))

few_stacks : (samples : List Sample) → length samples ≤ sum_by (λ (sample : Sample). stack_weight sample.0) samples
few_stacks [] = omega arith
few_stacks (sample ∷ samples) = let all = sum_by-cons (λ (s : Sample). stack_weight s.0) sample samples in omega (arith, all, few_stacks samples)

-- ---- profiles and pushes

profile_room : (profile : Profile) → IsProfile profile → profile_weight profile ≤ 268435456 → Fit (profile_fields (profile_said profile))
profile_room profile is light =
    let kind = profile.kind in
    let parts = parts_in kind in
    let part : (i : ℕ) → i < 5 → length (get_or parts i []) ≤ 268435456 = λ i low. omega (arith, light, get_or-le-sum_by length parts i [] low) in
    let counted = listed true sample_fields profile.values in
    let timed = number 8 profile.time_ms None ∷ counted in
    let fifth = part_field kind.period_unit ∷ timed in
    let fourth = part_field kind.period_type ∷ fifth in
    let third = part_field kind.sample_unit ∷ fourth in
    let second = part_field kind.sample_type ∷ third in
    room_append (labels_fields profile.labels) (part_field kind.name ∷ second)
    (room_cons (number 4 (length profile.labels) (unless (nat_le (length profile.labels) 31) Content)) (each_of label_fields [] profile.labels) (four_fit (length profile.labels) (omega (arith, is.labels.few)))
    (labels_room [] profile.labels (light_labels profile.labels (omega (arith, light)))))
    (room_cons (part_field kind.name) second (four_fit (length kind.name) (part 0 (omega arith)))
    (room_cons (part_field kind.sample_type) third (four_fit (length kind.sample_type) (part 1 (omega arith)))
    (room_cons (part_field kind.sample_unit) fourth (four_fit (length kind.sample_unit) (part 2 (omega arith)))
    (room_cons (part_field kind.period_type) fifth (four_fit (length kind.period_type) (part 3 (omega arith)))
    (room_cons (part_field kind.period_unit) timed (four_fit (length kind.period_unit) (part 4 (omega arith)))
    (room_cons (number 8 profile.time_ms None) counted (eight_fit profile.time_ms is.time)
    (room_cons (number 4 (length profile.values) (unless true Content)) (each_of sample_fields [] profile.values) (four_fit (length profile.values) (omega (arith, light, few_stacks profile.values)))
    (samples_room [] profile.values (recursion_from_All IsStack (keys_of profile.values) is.stacks) is.sums.bounded))))))))

profiles_room : (before : List FileProfile) (profiles : List Profile) → AllByRecursion IsProfile profiles → sum_by profile_weight profiles ≤ 268435456
    → Fit (each_of (λ before profile. profile_fields profile) before (map profile_said profiles))
profiles_room before [] each light = refl
profiles_room before (profile ∷ profiles) each light =
    let all = sum_by-cons profile_weight profile profiles in
    room_append (profile_fields (profile_said profile)) (each_of (λ before profile. profile_fields profile) (before ++ profile_said profile ∷ []) (map profile_said profiles))
    (profile_room profile each.0 (omega (arith, light, all))) (profiles_room (before ++ profile_said profile ∷ []) profiles each.1 (omega (arith, light, all)))

push_room : (push : Push) → IsPush push → push_weight push ≤ 268435456 → Fit (push_fields (push_said push))
push_room push is light =
    let profiles = map profile_said push.profiles in
    let few = nat_le (length profiles) 4096 in
    room_cons (text_of push.tenant (is_none (wrong_place push.tenant))) (listed few (λ before profile. profile_fields profile) profiles)
    (four_fit (length push.tenant) (omega (arith, tenant_few push.tenant is.tenant)))
    (room_cons (number 4 (length profiles) (unless few Content)) (each_of (λ before profile. profile_fields profile) [] profiles)
    (four_fit (length profiles) (omega (arith, is.few, length-map push.profiles profile_said)))
    (profiles_room [] push.profiles (recursion_from_All IsProfile push.profiles is.each) (omega (arith, light))))

pushes_room : (before : List FilePush) (pushes : List Push) → AllByRecursion IsPush pushes → AllByRecursion IsLight pushes
    → Fit (each_of (λ before push. push_fields push) before (map push_said pushes))
pushes_room before [] each light = refl
pushes_room before (push ∷ pushes) each light =
    room_append (push_fields (push_said push)) (each_of (λ before push. push_fields push) (before ++ push_said push ∷ []) (map push_said pushes))
    (push_room push each.0 light.0) (pushes_room (before ++ push_said push ∷ []) pushes each.1 light.1)

pub light_room : (lo : ℕ) (pushes : List Push) → lo + length pushes < 2 ^ 64 → All IsPush pushes → All IsLight pushes → Fit (file_fields (file_of lo pushes))
light_room lo pushes within each light =
    and_from (nat_lt lo (256 ^ 8)) _ (eight_fit lo (omega (arith, within)))
    (and_from (nat_lt (lo + length pushes) (256 ^ 8)) _ (eight_fit (lo + length pushes) within)
    (pushes_room [] pushes (recursion_from_All IsPush pushes each) (recursion_from_All IsLight pushes light)))
