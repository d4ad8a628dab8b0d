-- What reading a whole file answers.
use Rattle.std.proofs.Common.{◌≡◌, ◌≢◌, inr, ℕ, ◌+◌, ◌-◌, ◌<◌, List, [], ◌++◌, length, map, Result, Ok, Err, refl, subst, sym, ap, ◌∙◌, arith}
use Rattle.std.specs.Prelude.{IsErrAnd}
use Rattle.std.proofs.lemmas.List.{append-nil, length-map}
use Rattle.faults.specs.Answers.{IfAnswered, IfFault}
use Rattle.faults.specs.declared.refused.Refused.{Refused}
use Rattle.faults.specs.declared.refused.Refused.TheVariants.{Fault, Memory}
use Rattle.profile_model.specs.declared.push.Push.{Push}
use Rattle.segment_file.specs.declared.fault.ObjectFault.{ObjectFault}
use Rattle.segment_file.specs.declared.fault.ObjectRule.TheVariants.{Form}
use Rattle.segment_file.specs.Decoded.{IsBroken, IsDecoded, Spells}
use Rattle.segment_file.specs.Fields.{each_of, spelled}
use Rattle.segment_file.specs.Files.{FilePush, file_fields, mark_of_objects}
use Rattle.segment_file.specs.Objects.{IsObject, ObjectView, file_of, push_said}
use Rattle.segment_file.specs.ReadFields.{BeginsFile, each_push, head_fields}
use Rattle.segment_file.specs.Reading.{CursorView, Stopped, Took}
use Rattle.segment_file.proofs.ReadFiles.{broken}
use Rattle.segment_file.proofs.ReadKept.{object_kept}
use Rattle.segment_file.proofs.ReadLemmas.{took_both}

pub stopped_answer : (bytes : List ℕ) (c : CursorView) (r : Result ObjectView (Refused ObjectFault)) (refused : Refused ObjectFault) → c.rest ≡ bytes → c.at ≡ 0
    → IsErrAnd r (λ e. e ≡ refused) → IfFault (Stopped BeginsFile c) refused → IfAnswered (IsDecoded bytes) r
stopped_answer bytes c (Ok object) refused all front is stopped = absurd is
stopped_answer bytes c (Err (Fault fault)) refused all front is stopped = broken bytes c fault all front (subst (IfFault (Stopped BeginsFile c)) (sym is) stopped)
stopped_answer bytes c (Err Memory) refused all front is stopped = tt

-- ---- what stands behind the pushes

pub bytes_left : (bytes : List ℕ) (lo hi : ℕ) (pushes : List FilePush) (p q r : CursorView) → p.rest ≡ bytes → p.at ≡ 0 → Took (head_fields mark_of_objects lo hi) p q
    → (length pushes ≡ hi - lo) × Took (each_of each_push [] pushes) q r → r.rest ≢ [] → IsBroken bytes Form r.at
bytes_left bytes lo hi pushes p q r all front first rest some =
    let took = took_both (head_fields mark_of_objects lo hi) (each_of each_push [] pushes) p q r first rest.1 in
    inr (
      refl,
      inr (record {
        file = record { mark = mark_of_objects; lo = lo; hi = hi; pushes = pushes };
        shape = record { count = rest.0; fit = took.fit };
        sound = took.sound;
        more = r.rest;
        bytes_are = sym all ∙ took.passes.bytes_are;
        some = some;
        place = omega (arith, took.passes.place, front);
      }),
    )

-- ---- the object

-- all fields of its file were taken
taken_all : (lo hi : ℕ) (pushes : List Push) (p q r : CursorView) → lo < hi → Took (head_fields mark_of_objects lo hi) p q
    → (length (map push_said pushes) ≡ hi - lo) × Took (each_of each_push [] (map push_said pushes)) q r → Took (file_fields (file_of lo pushes)) p r
taken_all lo hi pushes p q r low first rest =
    let named : hi ≡ lo + length pushes = omega (arith, low, rest.0, length-map pushes push_said) in
    took_both (head_fields mark_of_objects lo (lo + length pushes)) (each_of each_push [] (map push_said pushes)) p q r
    (subst (λ (n : ℕ). Took (head_fields mark_of_objects lo n) p q) named first) rest.1

rises : (lo hi : ℕ) (pushes : List Push) → lo < hi → length (map push_said pushes) ≡ hi - lo → lo < lo + length pushes
rises lo hi pushes low count = omega (arith, low, count, length-map pushes push_said)

pub object_read : (lo hi : ℕ) (pushes : List Push) (p q r : CursorView) → lo < hi → Took (head_fields mark_of_objects lo hi) p q
    → (length (map push_said pushes) ≡ hi - lo) × Took (each_of each_push [] (map push_said pushes)) q r → IsObject lo pushes
object_read lo hi pushes p q r low first rest =
    let took = taken_all lo hi pushes p q r low first rest in
    object_kept lo pushes (rises lo hi pushes low rest.0) took.fit took.sound

pub bytes_spell : (bytes : List ℕ) (lo hi : ℕ) (pushes : List Push) (p q r : CursorView) → p.rest ≡ bytes → lo < hi → Took (head_fields mark_of_objects lo hi) p q
    → (length (map push_said pushes) ≡ hi - lo) × Took (each_of each_push [] (map push_said pushes)) q r → r.rest ≡ []
    → (object : ObjectView) → object.lo ≡ lo → object.pushes ≡ pushes → Spells bytes object
bytes_spell bytes lo hi pushes p q r all low first rest none object at are =
    let took = taken_all lo hi pushes p q r low first rest in
    let spelling = spelled (file_fields (file_of lo pushes)) in
    let spells : Spells bytes (record { lo = lo; pushes = pushes }) = record {
      whole = object_read lo hi pushes p q r low first rest;
      spelled = sym all ∙ took.passes.bytes_are ∙ ap (λ (l : List ℕ). spelling ++ l) none ∙ append-nil spelling;
    } in
    subst (Spells bytes) (λ i. record { lo = sym at i; pushes = sym are i }) spells
