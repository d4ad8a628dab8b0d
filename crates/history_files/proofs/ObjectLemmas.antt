-- Whether a file is an entry's object.
use Rattle.std.proofs.Common.{◌≡◌, ◌≢◌, ℕ, ◌+◌, List, length, Option, Some, None, Err, refl, sym, ◌∙◌, ap, subst}
use Rattle.std.specs.Prelude.{MatchOption}
use Rattle.std.specs.Option.{option_map}
use Rattle.std.proofs.lemmas.Option.{same_Some}
use Rattle.metastore_index.specs.declared.entry.Entry.{Entry}
use Rattle.profile_model.specs.declared.push.Push.{Push}
use Rattle.faults.specs.Answers.{IfAnswered}
use Rattle.faults.specs.declared.refused.Refused.{Refused}
use Rattle.faults.specs.declared.refused.Refused.TheVariants.{Fault}
use Rattle.segment_file.specs.declared.fault.ObjectFault.{ObjectFault}
use Rattle.segment_file.specs.declared.fault.ObjectRule.{ObjectRule}
use Rattle.segment_file.specs.Decoded.{IsBroken, IsDecoded, Spells}
use Rattle.segment_file.specs.Objects.{ObjectView}
use Rattle.segment_file.proofs.ObjectLemmas.{object_once}
use Rattle.segment_file.proofs.SoundLemmas.{object_unbroken}
use Rattle.history_files.specs.History.{IsObjectOf}
use Rattle.history_files.specs.Standing.{Describes}

-- no file
pub not_there : (entry : Entry) (content : Option (List ℕ)) → None ≡ option_map length content → (pushes : List Push) → ¬ (IsObjectOf entry pushes content)
not_there entry None is pushes it = absurd (cc)
not_there entry (Some bytes) is pushes it = absurd (cc)

-- a file of another length
pub wrong_length : (entry : Entry) (content : Option (List ℕ)) (n : ℕ) → Some n ≡ option_map length content → n ≢ entry.length → (pushes : List Push) → ¬ (IsObjectOf entry pushes content)
wrong_length entry None n is differs pushes it = absurd (cc)
wrong_length entry (Some bytes) n is differs pushes it =
    differs (same_Some n (length bytes) is ∙ ap length (same_Some bytes it.bytes it.there) ∙ it.long)

module _ (entry : Entry) (bytes : List ℕ) where
  -- the bytes of some pushes, of which the entry tells just that
  pub object_is : (object : ObjectView) → length bytes ≡ entry.length → Spells bytes object → Describes entry object → IsObjectOf entry object.pushes (Some bytes)
  object_is object long spells it = record {
    bytes = bytes;
    there = refl;
    long = long;
    spells = subst (λ (lo : ℕ). Spells bytes (record { lo = lo; pushes = object.pushes })) it.from spells;
    until = ap (λ (lo : ℕ). lo + length object.pushes) (sym it.from) ∙ it.until;
    times = it.times;
  }

  spells_it : (pushes : List Push) (it : IsObjectOf entry pushes (Some bytes)) → Spells bytes (record { lo = entry.lo; pushes = pushes })
  spells_it pushes it = subst (λ (l : List ℕ). Spells l (record { lo = entry.lo; pushes = pushes })) (sym (same_Some bytes it.bytes it.there)) it.spells

  -- of which it tells something else
  pub object_isnt : (object : ObjectView) → Spells bytes object → ¬ (Describes entry object) → (pushes : List Push) → ¬ (IsObjectOf entry pushes (Some bytes))
  object_isnt object spells other pushes it =
      let view : ObjectView = record { lo = entry.lo; pushes = pushes } in
      let same : view ≡ object = object_once bytes view object (spells_it pushes it) spells in
      other (subst (λ (o : ObjectView). Describes entry o) same (record { from = refl; until = it.until; times = it.times }))

  -- the bytes of no pushes
  pub broken_isnt : (rule : ObjectRule) (place : ℕ) → IsBroken bytes rule place → (pushes : List Push) → ¬ (IsObjectOf entry pushes (Some bytes))
  broken_isnt rule place broken pushes it = object_unbroken bytes (record { lo = entry.lo; pushes = pushes }) rule place (spells_it pushes it) broken

pub broken_by : (bytes : List ℕ) (refused : Refused ObjectFault) (fault : ObjectFault) → refused ≡ Fault fault → IfAnswered (IsDecoded bytes) (Err refused) → IsBroken bytes fault.rule fault.at
broken_by bytes refused fault is read = subst (λ (r : Refused ObjectFault). IfAnswered (IsDecoded bytes) (Err r)) is read

-- the same of a file with these bytes
pub found_in : {A : Type 0} (view : A → ObjectView) (entry : Entry) (content : Option (List ℕ)) (bytes : List ℕ) (found : Option A) → content ≡ Some bytes
    → MatchOption found ((pushes : List Push) → ¬ (IsObjectOf entry pushes (Some bytes))) (λ object. IsObjectOf entry (view object).pushes (Some bytes))
    → MatchOption found ((pushes : List Push) → ¬ (IsObjectOf entry pushes content)) (λ object. IsObjectOf entry (view object).pushes content)
found_in view entry content bytes found is told = subst (λ (o : Option (List ℕ)). MatchOption found ((pushes : List Push) → ¬ (IsObjectOf entry pushes o)) (λ object. IsObjectOf entry (view object).pushes o)) (sym is) told
