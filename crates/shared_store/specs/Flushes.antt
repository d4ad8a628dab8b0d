-- What becomes of several pushes that ask together to be kept.
use Rattle.std.specs.Prelude.{◌≡◌, ◌⊎◌, ℕ, ◌≤◌, Bool, true, false, List, [], ◌∷◌, length, map, replicate, Option, None, Result, Ok, Err, if◌then◌else◌}
use Rattle.std.specs.List.{list_any}
use Rattle.disk_trait.specs.Disk.{Rose}
use Rattle.profile_model.specs.declared.push.Push.{Push}
use Rattle.tenant_books.specs.declared.asks.PushAsk.{PushAsk}
use Rattle.tenant_books.specs.declared.verdict.Verdict.{Verdict}
use Rattle.store_core.specs.Store.{FlightView, Mends}
use Rattle.shared_store.specs.declared.refusal.Refusal.{Refusal}
use Rattle.shared_store.specs.declared.refusal.Refusal.TheVariants.{Disk, Full, Memory}
use Rattle.shared_store.specs.Holds.{Run}
use Rattle.shared_store.specs.Settled.{AreSettled, IsFullFor, IsSettled, SomeWouldBeKept}

-- what a push is told that is settled by itself, and what that leaves of a history
abbrev pub IsAnswer : Run → Option FlightView → List Push → PushAsk → Result Verdict Refusal → List Push → Type 0
IsAnswer run flight old ask (Ok verdict) new = IsSettled run flight old ask verdict new
IsAnswer run flight old ask (Err Memory) new = Mends old flight new
IsAnswer run flight old ask (Err (Disk count)) new = Mends old flight new
IsAnswer run flight old ask (Err (Full records)) new = Mends old flight new × IsFullFor run new ask records

-- Each push is settled by itself, behind what those before it left. Where the disk is known to tell, nothing is in the air.
abbrev pub AreAnswers : Run → List Push → List PushAsk → List (Result Verdict Refusal) → List Push → Type 0
AreAnswers run old [] [] new = new ≡ old
AreAnswers run old [] (one ∷ told) new = ⊥
AreAnswers run old (ask ∷ asks) [] new = ⊥
AreAnswers run old (ask ∷ asks) (one ∷ told) new =
    (flight : Option FlightView) × (next : List Push) × (run.tells → flight ≡ None) × IsAnswer run flight old ask one next × AreAnswers run next asks told new

-- the pushes were settled as one object: each has its verdict
pub record AreSettledAtOnce (run : Run) (flight : Option FlightView) (old : List Push) (asks : List PushAsk) (told : List (Result Verdict Refusal)) (new : List Push) : Type 0 where
  pub verdicts : List Verdict
  pub told_is : told ≡ map (λ verdict. Ok verdict) verdicts
  pub settled : AreSettled run flight old asks verdicts new

-- none has a verdict, for one cause, which isn't a full index
pub record AreRefused (flight : Option FlightView) (old : List Push) (asks : List PushAsk) (told : List (Result Verdict Refusal)) (new : List Push) : Type 0 where
  pub cause : Refusal
  pub other : (cause ≡ Memory) ⊎ ((count : ℕ) × (cause ≡ Disk count))
  pub told_is : told ≡ replicate (length asks) (Err cause)
  pub mends : Mends old flight new

-- The index was full for some of them, so that each was settled by itself. Where the disk is known to tell, none is kept.
pub record AreSettledOneByOne (run : Run) (flight : Option FlightView) (old : List Push) (asks : List PushAsk) (told : List (Result Verdict Refusal)) (new : List Push) : Type 0 where
  pub mid : List Push
  pub mends : Mends old flight mid
  pub some : run.tells → SomeWouldBeKept run mid asks
  pub answers : AreAnswers run mid asks told new
  pub none : run.tells → new ≡ mid

-- what a flush is told, and what it leaves of a history
abbrev pub IsFlush : Run → Option FlightView → List Push → List PushAsk → List (Result Verdict Refusal) → List Push → Type 0
IsFlush run flight old asks told new = AreSettledAtOnce run flight old asks told new ⊎ (AreRefused flight old asks told new ⊎ AreSettledOneByOne run flight old asks told new)

-- the count that a push is told where the disk failed rose from the one before, and is within the one now
abbrev pub HasFailed : ℕ → ℕ → Result Verdict Refusal → Type 0
HasFailed before now one = (count : ℕ) → one ≡ Err (Disk count) → Rose before count × (count ≤ now)

abbrev pub is_full : Result Verdict Refusal → Bool
is_full (Ok verdict) = false
is_full (Err Memory) = false
is_full (Err (Full records)) = true
is_full (Err (Disk count)) = false

-- the spine's second number after a flush: 1 where any of it found the index full, and else as it was
abbrev pub full_after_all : List (Result Verdict Refusal) → ℕ → ℕ
full_after_all told full = if list_any is_full told then 1 else full
