-- What a file that breaks no rule says, as values of its types.
use Rattle.std.proofs.Common.{◌≡◌, ◌+◌, Bool, true, false, List, [], ◌∷◌, ◌++◌, drop, length, map, refl, subst, sym, ap, ◌∙◌, arith}
use Rattle.std.specs.Prelude.{nat_eq, nat_lt}
use Rattle.std.specs.List.{list_all}
use Rattle.std.specs.Option.{is_none}
use Rattle.std.specs.Cmp.Lexicographic.{pointwise}
use Rattle.std.proofs.lemmas.Bool.{and_parts, ltb-true}
use Rattle.std.proofs.lemmas.List.{length-map}
use Rattle.std.proofs.lemmas.Slice.Eq.{bytes_eq-Decides}
use Rattle.profile_model.specs.declared.profile.Profile.{Profile}
use Rattle.profile_model.specs.declared.push.Push.{Push}
use Rattle.segment_file.specs.declared.fault.ObjectRule.{ObjectRule}
use Rattle.segment_file.specs.declared.fault.ObjectRule.TheVariants.{Form}
use Rattle.segment_file.specs.Fields.{AreSound, Field, Fit, each_of, unless}
use Rattle.segment_file.specs.Files.{File, FileProfile, FilePush, IsFile, file_fields, labels_fields, mark_field, mark_of_objects, profile_fields, push_fields, sample_fields}
use Rattle.segment_file.specs.Objects.{IsObject, ObjectView, file_of, profile_said, push_said}
use Rattle.segment_file.specs.ReadFields.{FileKind, alone, any_count, each_profile, each_push, few_profiles, hi_field, is_part, is_tenant, kind_fields, list_fields, lo_field, time_field}
use Rattle.segment_file.proofs.ReadKept.{object_kept}
use Rattle.segment_file.proofs.ReadLemmas.{sound_number, sound_text}
use Rattle.segment_file.proofs.ReadProfiles.{profile_labels, sound_parts}

profile_made : (said : FileProfile) → AreSound (profile_fields said) → (profile : Profile) × (profile_said profile ≡ said)
profile_made said sound =
    let kind : FileKind = record { name = said.name; sample_type = said.sample_type; sample_unit = said.sample_unit; period_type = said.period_type; period_unit = said.period_unit } in
    let behind = kind_fields kind ++ (alone time_field said.time_ms ++ list_fields any_count sample_fields said.values) in
    let both = sound_parts (labels_fields said.labels) behind sound in
    let name = sound_text is_part said.name (drop 1 behind) both.1 in
    let sample_type = sound_text is_part said.sample_type (drop 2 behind) name.2 in
    let sample_unit = sound_text is_part said.sample_unit (drop 3 behind) sample_type.2 in
    let period_type = sound_text is_part said.period_type (drop 4 behind) sample_unit.2 in
    let period_unit = sound_text is_part said.period_unit (drop 5 behind) period_type.2 in (
      record {
        labels = said.labels;
        kind = record {
          name = said.name;
          sample_type = said.sample_type;
          sample_unit = said.sample_unit;
          period_type = said.period_type;
          period_unit = said.period_unit;
          parts = (name.0, sample_type.0, sample_unit.0, period_type.0, period_unit.0);
        };
        time_ms = said.time_ms;
        values = said.values;
        labelled = profile_labels said.labels both.0;
      },
      refl {a = said},
    )

profiles_made : (before saids : List FileProfile) → AreSound (each_of each_profile before saids) → (profiles : List Profile) × (map profile_said profiles ≡ saids)
profiles_made before [] sound = ([], refl)
profiles_made before (said ∷ saids) sound =
    let both = sound_parts (profile_fields said) (each_of each_profile (before ++ said ∷ []) saids) sound in
    let first = profile_made said both.0 in
    let others = profiles_made (before ++ said ∷ []) saids both.1 in
    (first.0 ∷ others.0, λ i. first.1 i ∷ others.1 i)

push_made : (said : FilePush) → AreSound (push_fields said) → (push : Push) × (push_said push ≡ said)
push_made said sound =
    let tenant = sound_text is_tenant said.tenant (list_fields few_profiles each_profile said.profiles) sound in
    let counted = sound_number 4 (length said.profiles) (few_profiles (length said.profiles)) (each_of each_profile [] said.profiles) tenant.2 in
    let profiles = profiles_made [] said.profiles counted.1 in
    (record { tenant = said.tenant; profiles = profiles.0 }, λ i. record { tenant = said.tenant; profiles = profiles.1 i })

pushes_made : (before saids : List FilePush) → AreSound (each_of each_push before saids) → (pushes : List Push) × (map push_said pushes ≡ saids)
pushes_made before [] sound = ([], refl)
pushes_made before (said ∷ saids) sound =
    let both = sound_parts (push_fields said) (each_of each_push (before ++ said ∷ []) saids) sound in
    let first = push_made said both.0 in
    let others = pushes_made (before ++ said ∷ []) saids both.1 in
    (first.0 ∷ others.0, λ i. first.1 i ∷ others.1 i)

-- ---- the file

not_broken : (sound : Bool) (rule : ObjectRule) → is_none (unless sound rule) ≡ true → sound ≡ true
not_broken true rule is = refl
not_broken false rule is = absurd cc

first_right : (sound : Bool) (rule : ObjectRule) (field : Field) (fields : List Field) → field.breaks ≡ unless sound rule → AreSound (field ∷ fields) → (sound ≡ true) × AreSound fields
first_right sound rule field fields is all =
    let both = and_parts (is_none field.breaks) (list_all (λ (f : Field). is_none f.breaks) fields) all in
    (not_broken sound rule (sym (ap is_none is) ∙ both.0), both.1)

-- the object whose file it is
pub object_made : (file : File) → IsFile file → AreSound (file_fields file) → (object : ObjectView) × (file ≡ file_of object.lo object.pushes) × IsObject object.lo object.pushes
object_made file is sound =
    let fields = file_fields file in
    let mark = first_right (pointwise nat_eq file.mark mark_of_objects) Form (mark_field file.mark) (drop 1 fields) refl sound in
    let numbered = sound_parts (alone lo_field file.lo) (drop 2 fields) mark.1 in
    let order = first_right (nat_lt file.lo file.hi) Form (hi_field file.lo file.hi) (drop 3 fields) refl numbered.1 in
    let low = ltb-true file.lo file.hi order.0 in
    let made = pushes_made [] file.pushes order.1 in
    let pushes = made.0 in
    let marked = (bytes_eq-Decides file.mark mark_of_objects).0 mark.0 in
    let counted : length pushes ≡ length file.pushes = sym (length-map pushes push_said) ∙ ap length made.1 in
    let ends : file.hi ≡ file.lo + length pushes = omega (arith, low, counted, is.count) in
    let same : file ≡ file_of file.lo pushes = λ i. record { mark = marked i; lo = file.lo; hi = ends i; pushes = sym made.1 i } in (
      record { lo = file.lo; pushes = pushes },
      same,
      object_kept file.lo pushes (omega (arith, low, ends)) (subst (λ (f : File). Fit (file_fields f)) same is.fit) (subst (λ (f : File). AreSound (file_fields f)) same sound),
    )
