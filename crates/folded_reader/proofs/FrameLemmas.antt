-- Whether a frame is too long, and that frames are a stack.
use Rattle.std.proofs.Common.{◌≡◌, ◌==◌, ℕ, zero, suc, ◌<◌, ◌≤◌, List, [], ◌∷◌, ◌++◌, length, Bool, true, false, arith, refl, ◌∙◌, ap, Err}
use Rattle.std.specs.Bool.{MatchBool}
use Rattle.std.specs.List.{All, Any}
use Rattle.std.proofs.lemmas.Bool.Decides.{nat_tests}
use Rattle.std.proofs.lemmas.List.{length_push, get_or_push, get_or_append_left}
use Rattle.std.proofs.lemmas.List.Elements.{All-push, All-head, All-tail}
use Rattle.std.specs.Prelude.{slice_get, IsSomeAnd}
use Rattle.profile_model.specs.Limits.{most_frames, most_frame_bytes}
use Rattle.profile_model.specs.Stacks.{IsFrame, IsStack}
use Rattle.profile_model.specs.ReadStacks.{IsReadStack, IsFirstWrong}
use Rattle.profile_model.specs.declared.stack.StackFault.{StackFault}
use Rattle.profile_model.specs.declared.stack.StackFault.TheVariants.{NoFrames, TooDeep, EmptyFrame, LongFrame}

-- what `is_empty` answered
pub empty_from_test : (b : Bool) (frame : List ℕ) → b ≡ (length frame == 0) → b ≡ true → length frame ≡ 0
empty_from_test b frame e t = grind (arith, nat_tests)

pub named_from_test : (b : Bool) (frame : List ℕ) → b ≡ (length frame == 0) → b ≡ false → 0 < length frame
named_from_test b frame e t = grind (arith, nat_tests)

-- where b says whether a frame is too long
abbrev pub TellsLong : Bool → List (List ℕ) → Type 0
TellsLong b frames = MatchBool b (Any (λ frame. most_frame_bytes < length frame) frames) (All (λ frame. length frame ≤ most_frame_bytes) frames)

pub Any-push : {X : Type 0} (P : X → Type 0) (xs : List X) (x : X) → P x → Any P (xs ++ x ∷ [])
Any-push P xs x p = let n = length_push xs x in (length xs, x, omega arith, get_or_push xs x x (length xs) refl, p)

pub Any-pushed : {X : Type 0} (P : X → Type 0) (xs : List X) (x : X) → Any P xs → Any P (xs ++ x ∷ [])
Any-pushed P xs x h = let n = length_push xs x in (h.0, h.1, omega arith, get_or_append_left xs (x ∷ []) h.1 h.0 h.2 ∙ h.3, h.4)

pub TellsLong-push : (b : Bool) (frames : List (List ℕ)) (frame : List ℕ) → length frame ≤ most_frame_bytes → TellsLong b frames → TellsLong b (frames ++ frame ∷ [])
TellsLong-push true frames frame short h = Any-pushed (λ frame. most_frame_bytes < length frame) frames frame h
TellsLong-push false frames frame short h = All-push (λ frame. length frame ≤ most_frame_bytes) frames frame h short

-- frames of the right lengths, neither none nor too many, are a stack
pub stack_of : (frames : List (List ℕ)) → 0 < length frames → length frames ≤ most_frames → All (λ frame. 0 < length frame) frames → All (λ frame. length frame ≤ most_frame_bytes) frames → IsStack frames
stack_of frames some few named short = record {
  some = some;
  few = few;
  each = λ k d within. (named k d within, short k d within);
}

-- what holds of each frame fails at none
at_wrong : (frames : List (List ℕ)) (at : ℕ) (Wrong : List ℕ → Type 0) → ((frame : List ℕ) → IsFrame frame → Wrong frame → ⊥)
    → All IsFrame frames → IsSomeAnd (slice_get frames at) Wrong → ⊥
at_wrong [] at Wrong refutes each here = here
at_wrong (frame ∷ frames) zero Wrong refutes each here = refutes frame (All-head IsFrame frame frames each) here
at_wrong (frame ∷ frames) (suc at) Wrong refutes each here = at_wrong frames at Wrong refutes (All-tail IsFrame frame frames each) here

wrong : (frames : List (List ℕ)) (at : ℕ) (Wrong : List ℕ → Type 0) → ((frame : List ℕ) → IsFrame frame → Wrong frame → ⊥)
    → IsStack frames → IsFirstWrong frames at Wrong → ⊥
wrong frames at Wrong refutes stack first = at_wrong frames at Wrong refutes stack.each first.here

-- a stack's frames have no fault
pub read_stack : (frames : List (List ℕ)) (fault : StackFault) → IsStack frames → IsReadStack frames (Err fault) → ⊥
read_stack frames NoFrames stack read = let none = ap length read in let some = stack.some in omega arith
read_stack frames TooDeep stack read = let few = stack.few in omega arith
read_stack frames (EmptyFrame at) stack read = wrong frames at (λ frame. length frame ≡ 0) (λ frame sized empty. let some = sized.0 in omega arith) stack read.1
read_stack frames (LongFrame at) stack read = wrong frames at (λ frame. most_frame_bytes < length frame) (λ frame sized long. let few = sized.1 in omega arith) stack read.1
