-- The bytes of fields don't depend on the rules of these.
use Rattle.std.proofs.Common.{◌≡◌, ℕ, ◌+◌, Bool, true, List, [], ◌∷◌, ◌++◌, length, map, refl, sym, ap, ◌∙◌}
use Rattle.std.specs.Prelude.{nat_le}
use Rattle.std.specs.Int.{bytes_high_first}
use Rattle.std.specs.List.{flat_map}
use Rattle.std.proofs.lemmas.List.{append_assoc, length-map}
use Rattle.std.proofs.lemmas.Grind.{flat_map-append}
use Rattle.profile_model.specs.LabelSets.{Label}
use Rattle.profile_model.specs.Sums.{Sample}
use Rattle.profile_model.specs.declared.profile.Profile.{Profile}
use Rattle.profile_model.specs.declared.push.Push.{Push}
use Rattle.segment_file.specs.Bytes.{kind_bytes, label_bytes, labels_bytes, object_bytes, profile_bytes, push_bytes, sample_bytes, stack_bytes, text_bytes, values_bytes}
use Rattle.segment_file.specs.Fields.{Field, each_of, listed, spelled}
use Rattle.segment_file.specs.Files.{FileProfile, FilePush, frame_fields, label_fields, labels_fields, mark_of_objects, profile_fields, push_fields, sample_fields, stack_fields, value_field}
use Rattle.segment_file.specs.Objects.{profile_said, push_said, spelling_of}
use Rattle.segment_file.proofs.FileLemmas.{behind_labels}

spelled-append : (fields others : List Field) → spelled (fields ++ others) ≡ spelled fields ++ spelled others
spelled-append = flat_map-append (λ (field : Field). field.bytes)

-- items one after another, each by its own bytes
spelled-each : {A : Type 0} (fields : List A → A → List Field) (bytes : A → List ℕ) → ((before : List A) (item : A) → spelled (fields before item) ≡ bytes item)
    → (before items : List A) → spelled (each_of fields before items) ≡ flat_map bytes items
spelled-each fields bytes are before [] = refl
spelled-each fields bytes are before (item ∷ items) =
    spelled-append (fields before item) (each_of fields (before ++ item ∷ []) items)
    ∙ ap (λ l. l ++ spelled (each_of fields (before ++ item ∷ []) items)) (are before item)
    ∙ ap (λ l. bytes item ++ l) (spelled-each fields bytes are (before ++ item ∷ []) items)

spelled-listed : {A : Type 0} (sound : Bool) (fields : List A → A → List Field) (bytes : A → List ℕ) → ((before : List A) (item : A) → spelled (fields before item) ≡ bytes item)
    → (items : List A) → spelled (listed sound fields items) ≡ bytes_high_first 4 (length items) ++ flat_map bytes items
spelled-listed sound fields bytes are items = ap (λ l. bytes_high_first 4 (length items) ++ l) (spelled-each fields bytes are [] items)

-- one text and no more
alone : (text : List ℕ) → text ++ [] ≡ text
alone [] = refl
alone (b ∷ text) = ap (λ l. b ∷ l) (alone text)

spelled-label : (before : List Label) (label : Label) → spelled (label_fields before label) ≡ label_bytes label
spelled-label before label = ap (λ l. text_bytes label.0 ++ l) (alone (text_bytes label.1))

spelled-frames : (ordered : Bool) (frames : List (List ℕ)) → spelled (frame_fields ordered frames) ≡ flat_map text_bytes frames
spelled-frames ordered [] = refl
spelled-frames ordered (frame ∷ []) = refl
spelled-frames ordered (frame ∷ next ∷ deeper) = ap (λ l. text_bytes frame ++ l) (spelled-frames ordered (next ∷ deeper))

spelled-stack : (before : List Sample) (stack : List (List ℕ)) → spelled (stack_fields before stack) ≡ stack_bytes stack
spelled-stack before stack = ap (λ l. bytes_high_first 4 (length stack) ++ l) (spelled-frames _ stack)

spelled-sample : (before : List Sample) (sample : Sample) → spelled (sample_fields before sample) ≡ sample_bytes sample
spelled-sample before sample =
    spelled-append (stack_fields before sample.0) (value_field before sample.1 ∷ [])
    ∙ ap (λ l. l ++ bytes_high_first 8 sample.1) (spelled-stack before sample.0)

-- texts in a row, grouped one by one or together
five : (a b c d e rest : List ℕ) → a ++ (b ++ (c ++ (d ++ (e ++ rest)))) ≡ (a ++ (b ++ (c ++ (d ++ (e ++ []))))) ++ rest
five a b c d e rest =
    sym (append_assoc a (b ++ (c ++ (d ++ (e ++ [])))) rest ∙ ap (λ l. a ++ l)
    (append_assoc b (c ++ (d ++ (e ++ []))) rest ∙ ap (λ l. b ++ l)
    (append_assoc c (d ++ (e ++ [])) rest ∙ ap (λ l. c ++ l)
    (append_assoc d (e ++ []) rest ∙ ap (λ l. d ++ l) (append_assoc e [] rest)))))

four : (a b c d : List ℕ) → a ++ (b ++ (c ++ d)) ≡ a ++ b ++ c ++ d
four a b c d = sym (append_assoc (a ++ b) c d ∙ append_assoc a b (c ++ d))

pub spelled-profile : (before : List FileProfile) (profile : Profile) → spelled (profile_fields (profile_said profile)) ≡ profile_bytes profile
spelled-profile before profile =
    let said = profile_said profile in
    let kind = profile.kind in
    spelled-append (labels_fields profile.labels) (behind_labels said)
    ∙ ap (λ l. l ++ spelled (behind_labels said)) (spelled-listed (nat_le (length profile.labels) 31) label_fields label_bytes spelled-label profile.labels)
    ∙ ap (λ l. labels_bytes profile.labels ++ l)
    (five (text_bytes kind.name) (text_bytes kind.sample_type) (text_bytes kind.sample_unit) (text_bytes kind.period_type) (text_bytes kind.period_unit) _
    ∙ ap (λ l. flat_map text_bytes (kind.name ∷ kind.sample_type ∷ kind.sample_unit ∷ kind.period_type ∷ kind.period_unit ∷ []) ++ (bytes_high_first 8 profile.time_ms ++ l))
    (spelled-listed true sample_fields sample_bytes spelled-sample profile.values))
    ∙ four (labels_bytes profile.labels) (kind_bytes kind) (bytes_high_first 8 profile.time_ms) (values_bytes profile.values)

spelled-profiles : (before : List FileProfile) (profiles : List Profile)
    → spelled (each_of (λ before profile. profile_fields profile) before (map profile_said profiles)) ≡ flat_map profile_bytes profiles
spelled-profiles before [] = refl
spelled-profiles before (profile ∷ profiles) =
    spelled-append (profile_fields (profile_said profile)) (each_of (λ before profile. profile_fields profile) (before ++ profile_said profile ∷ []) (map profile_said profiles))
    ∙ ap (λ l. l ++ spelled (each_of (λ before profile. profile_fields profile) (before ++ profile_said profile ∷ []) (map profile_said profiles))) (spelled-profile before profile)
    ∙ ap (λ l. profile_bytes profile ++ l) (spelled-profiles (before ++ profile_said profile ∷ []) profiles)

spelled-push : (push : Push) → spelled (push_fields (push_said push)) ≡ push_bytes push
spelled-push push =
    ap (λ l. text_bytes push.tenant ++ (bytes_high_first 4 (length (map profile_said push.profiles)) ++ l)) (spelled-profiles [] push.profiles)
    ∙ ap (λ n. text_bytes push.tenant ++ (bytes_high_first 4 n ++ flat_map profile_bytes push.profiles)) (length-map push.profiles profile_said)

spelled-pushes : (before : List FilePush) (pushes : List Push)
    → spelled (each_of (λ before push. push_fields push) before (map push_said pushes)) ≡ flat_map push_bytes pushes
spelled-pushes before [] = refl
spelled-pushes before (push ∷ pushes) =
    spelled-append (push_fields (push_said push)) (each_of (λ before push. push_fields push) (before ++ push_said push ∷ []) (map push_said pushes))
    ∙ ap (λ l. l ++ spelled (each_of (λ before push. push_fields push) (before ++ push_said push ∷ []) (map push_said pushes))) (spelled-push push)
    ∙ ap (λ l. push_bytes push ++ l) (spelled-pushes (before ++ push_said push ∷ []) pushes)

-- the spelling, part by part
pub spelling-parts : (lo : ℕ) (pushes : List Push) → spelling_of lo pushes ≡ object_bytes lo pushes
spelling-parts lo pushes = ap (λ l. 80 ∷ 89 ∷ 79 ∷ 48 ∷ (bytes_high_first 8 lo ++ (bytes_high_first 8 (lo + length pushes) ++ l))) (spelled-pushes [] pushes)

-- the parts, written one behind another
pub spelled_in_turn : (lo first behind : ℕ) (pushes written : List Push) (marked begun counted whole : List ℕ)
    → marked ≡ mark_of_objects → first ≡ lo → begun ≡ marked ++ bytes_high_first 8 first → behind ≡ lo + length pushes → counted ≡ begun ++ bytes_high_first 8 behind
    → written ≡ pushes → whole ≡ counted ++ flat_map push_bytes written → whole ≡ spelling_of lo pushes
spelled_in_turn lo first behind pushes written marked begun counted whole mark low one high two all three =
    let numbers : begun ≡ mark_of_objects ++ bytes_high_first 8 lo = one ∙ (λ i. mark i ++ bytes_high_first 8 (low i)) in
    let front : counted ≡ (mark_of_objects ++ bytes_high_first 8 lo) ++ bytes_high_first 8 (lo + length pushes) = two ∙ (λ i. numbers i ++ bytes_high_first 8 (high i)) in
    three ∙ (λ i. front i ++ flat_map push_bytes (all i)) ∙ sym (spelling-parts lo pushes)
