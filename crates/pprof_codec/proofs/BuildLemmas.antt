-- What a profile is built from.
use Rattle.std.proofs.Common.{◌≡◌, ℕ, ℤ, ◌<◌, List, [], ◌∷◌, ◌++◌, length, Option, Some, None, Err, refl, ap, ◌∙◌, subst, arith}
use Rattle.std.specs.Prelude.{reverse, slice_get, IsSomeAnd}
use Rattle.std.specs.List.{All, flat_map}
use Rattle.profile_model.specs.CleanedTexts.{cleaned}
use Rattle.profile_model.specs.Stacks.{IsFrame, IsStack}
use Rattle.profile_model.specs.ReadStacks.{IsReadStack}
use Rattle.profile_model.specs.declared.stack.StackFault.{StackFault}
use Rattle.profile_model.specs.declared.stack.StackFault.TheVariants.{NoFrames, TooDeep, EmptyFrame, LongFrame}
use Rattle.pprof_message.specs.declared.lists.ValueType.{ValueType}
use Rattle.pprof_message.specs.Pprof.{Sample, Pprof}
use Rattle.pprof_codec.specs.declared.base.Base.{Base}
use Rattle.pprof_codec.specs.Members.{text_at}
use Rattle.pprof_codec.specs.Frames.{frames_at, root_first, stack_of, unknown_frame}
use Rattle.pprof_codec.specs.Profiles.{parts_of}
use Rattle.pprof_codec.proofs.FaultLemmas.{get-some}

-- ---- the type

pub cleaned-same : (texts others : List (List ℕ)) (place : ℤ) (made : List ℕ) → texts ≡ others → made ≡ cleaned (text_at texts place)
    → made ≡ cleaned (text_at others place)
cleaned-same texts others place made same is = is ∙ ap (λ all. cleaned (text_at all place)) same

pub parts-built : (base : Base) (pprof : Pprof) (kind period : ValueType) (texts : List (List ℕ)) (name type unit period_type period_unit : List ℕ)
    → texts ≡ pprof.texts → period ≡ pprof.period_type → name ≡ base.name
    → type ≡ cleaned (text_at texts kind.kind) → unit ≡ cleaned (text_at texts kind.unit)
    → period_type ≡ cleaned (text_at texts period.kind) → period_unit ≡ cleaned (text_at texts period.unit)
    → name ∷ type ∷ unit ∷ period_type ∷ period_unit ∷ [] ≡ parts_of base pprof kind
unfolding parts_of
parts-built base pprof kind period texts name type unit period_type period_unit same own named first second third fourth =
    let is1 = cleaned-same texts pprof.texts kind.kind type same first in
    let is2 = cleaned-same texts pprof.texts kind.unit unit same second in
    let is3 = cleaned-same texts pprof.texts period.kind period_type same third ∙ ap (λ (p : ValueType). cleaned (text_at pprof.texts p.kind)) own in
    let is4 = cleaned-same texts pprof.texts period.unit period_unit same fourth ∙ ap (λ (p : ValueType). cleaned (text_at pprof.texts p.unit)) own in
    (λ k. named k ∷ is1 k ∷ is2 k ∷ is3 k ∷ is4 k ∷ [])

-- ---- the stacks

-- the frames of these locations, the leaf first
abbrev pub leaf_first : List ℕ → List (List ℕ)
leaf_first [] = unknown_frame ∷ []
leaf_first (id ∷ ids) = []

pub turned-round : (pprof : Pprof) (sample : Sample) → reverse (leaf_first sample.location_ids ++ flat_map (frames_at pprof) sample.location_ids) ≡ stack_of pprof sample
unfolding stack_of
turned-round pprof sample = by sample.location_ids
  where
    by : (ids : List ℕ) → reverse (leaf_first ids ++ flat_map (frames_at pprof) ids) ≡ root_first pprof ids
    by [] = refl
    by (id ∷ ids) = refl

wrong_frame : (frames : List (List ℕ)) (at : ℕ) (Wrong : List ℕ → Type 0) → ((frame : List ℕ) → IsFrame frame → Wrong frame → ⊥)
    → All IsFrame frames → IsSomeAnd (slice_get frames at) Wrong → ⊥
wrong_frame frames at Wrong none all = by (slice_get frames at) refl
  where
    by : (found : Option (List ℕ)) → slice_get frames at ≡ found → IsSomeAnd found Wrong → ⊥
    by None is here = here
    by (Some frame) is here = let read = get-some frames at frame is in none frame (subst IsFrame read.1 (all at frame read.0)) here

pub no-stack_fault : (frames : List (List ℕ)) (fault : StackFault) → IsStack frames → IsReadStack frames (Err fault) → ⊥
no-stack_fault frames NoFrames stack h = let some = stack.some in let none = ap (length {A = List ℕ}) h in omega arith
no-stack_fault frames TooDeep stack h = let few = stack.few in omega arith
no-stack_fault frames (EmptyFrame at) stack h =
    wrong_frame frames at (λ frame. length frame ≡ 0) (λ frame is wrong. let some = is.0 in omega arith) stack.each h.1.here
no-stack_fault frames (LongFrame at) stack h =
    wrong_frame frames at (λ frame. 65535 < length frame) (λ frame is wrong. let most = is.1 in omega arith) stack.each h.1.here

-- a sample that was read has a stack
pub stack-read : (pprof : Pprof) (at : ℕ) (sample : Sample) → All (λ one. IsStack (stack_of pprof one)) pprof.samples → slice_get pprof.samples at ≡ Some sample
    → IsStack (stack_of pprof sample)
stack-read pprof at sample all is =
    let read = get-some pprof.samples at sample is in subst (λ one. IsStack (stack_of pprof one)) read.1 (all at sample read.0)
