-- What takes its weight from the room, and what all together take.
use Rattle.std.proofs.Common.{◌≡◌, ⊎_elim, ℕ, ◌+◌, ◌<◌, ◌≤◌, List, length, Result, Ok, Err, arith}
use Rattle.faults.specs.Answers.{IfFault}
use Rattle.faults.specs.declared.refused.Refused.{Refused}
use Rattle.faults.proofs.AnswerLemmas.{IfFault-weaker}
use Rattle.profile_model.specs.Sums as sums
use Rattle.profile_model.specs.Sums.{sums_of, with_added}
use Rattle.profile_model.specs.Weights.{stack_weight}
use Rattle.pprof_codec.specs.declared.fault.PprofFault.{PprofFault}
use Rattle.pprof_codec.specs.Profiles.{stacks_weight}
use Rattle.pprof_codec.specs.Tables.{IsShort, TakesRoom}
use Rattle.pprof_codec.proofs.WeightLemmas.{weighs-with_added}

-- where a part has no room, the whole has none
pub takes-along : (refused : Refused PprofFault) (before weight first whole : ℕ) → (before < weight → first < whole) → IfFault (IsShort before weight) refused → IfFault (IsShort first whole) refused
takes-along refused before weight first whole along h =
    IfFault-weaker {P = IsShort before weight} {Q = IsShort first whole} refused (λ fault short. (short.0, along short.1)) h

-- a new stack's weight is taken from the room
pub new-weight : (known : List sums.Sample) (stack : List (List ℕ)) (value weight : ℕ) → length known < length (with_added known stack value) → weight ≡ stack_weight stack
    → stacks_weight (with_added known stack value) ≡ stacks_weight known + weight
new-weight known stack value weight more own =
    ⊎_elim (λ same. absurd (let counted = same.0 in omega arith)) (λ new. let weighed = new.1 in omega arith) (weighs-with_added known stack value).holds

-- a known stack takes nothing
pub takes-known : (known : List sums.Sample) (stack : List (List ℕ)) (value : ℕ) → length (with_added known stack value) ≤ length known
    → stacks_weight (with_added known stack value) ≡ stacks_weight known
takes-known known stack value none =
    ⊎_elim (λ same. same.1) (λ new. absurd (let counted = new.0 in omega arith)) (weighs-with_added known stack value).holds

-- the same of a part's weight and result as of the whole's
pub takes-part : {T : Type 0} (Q R : Type 0) (taken : Result T (Refused PprofFault)) (before after weight first whole : ℕ)
    → (before < weight → first < whole) → (before ≡ after + weight → first ≡ after + whole) → (Q → R)
    → TakesRoom taken before after weight (λ _. Q) → TakesRoom taken first after whole (λ _. R)
takes-part Q R (Ok x) before after weight first whole less same made h = (same h.0, made h.1)
takes-part Q R (Err refused) before after weight first whole less same made h = takes-along refused before weight first whole less h
