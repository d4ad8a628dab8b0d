-- What becomes of pushes that ask to be kept.
use Rattle.std.specs.Prelude.{◌≡◌, ◌⊎◌, ℕ, true, List, [], ◌∷◌, ◌++◌, length, Option, Result, Ok, Err}
use Rattle.profile_model.specs.declared.push.Push.{Push}
use Rattle.tenant_books.specs.declared.asks.PushAsk.{PushAsk}
use Rattle.tenant_books.specs.declared.verdict.Verdict.{Verdict}
use Rattle.tenant_books.specs.declared.verdict.Verdict.TheVariants.{Kept}
use Rattle.tenant_books.specs.declared.verdict.Receipt.{Receipt}
use Rattle.tenant_books.specs.Limits.{limit_of}
use Rattle.tenant_books.specs.Keeping.{is_some_kept}
use Rattle.tenant_books.specs.Verdicts.{AreVerdicts, IsVerdict, kept_of, with_kept}
use Rattle.store_core.specs.Store.{FlightView, Mends, in_flight}
use Rattle.store_core.specs.declared.fault.SettleFault.{SettleFault}
use Rattle.store_core.specs.declared.fault.SettleFault.TheVariants as fault
use Rattle.shared_store.specs.declared.refusal.Refusal.{Refusal}
use Rattle.shared_store.specs.declared.refusal.Refusal.TheVariants.{Disk, Full, Memory}
use Rattle.shared_store.specs.Holds.{Run}

-- A push was settled: what was in the air came to the history or not, and behind that the push, if it was kept. Where the disk
-- is known to tell, the verdict is that of the history before it.
pub record IsSettled (run : Run) (flight : Option FlightView) (old : List Push) (ask : PushAsk) (verdict : Verdict) (new : List Push) : Type 0 where
  pub mid : List Push
  pub mends : Mends old flight mid
  pub kept : new ≡ with_kept mid ask.push verdict
  pub judged : run.tells → IsVerdict (limit_of run.limits) mid ask verdict

-- the index has as many records as it may have, and the push would be kept behind this history
pub record IsFullFor (run : Run) (history : List Push) (ask : PushAsk) (records : ℕ) : Type 0 where
  pub records_is : records ≡ run.records
  pub would_be : run.tells → (receipt : Receipt) × IsVerdict (limit_of run.limits) history ask (Kept receipt)

-- the spine's second number after a push was settled: 1 where the index was found full, and else as it was
abbrev pub full_after : {T : Type 0} → Result T Refusal → ℕ → ℕ
full_after (Ok verdict) full = full
full_after (Err Memory) full = full
full_after (Err (Full records)) full = 1
full_after (Err (Disk count)) full = full

-- ---- of several

-- Each push has its verdict, judged in order after those kept before it, and stands behind the history if it was kept.
pub record HaveVerdicts (run : Run) (old : List Push) (asks : List PushAsk) (verdicts : List Verdict) (new : List Push) : Type 0 where
  pub many : length verdicts ≡ length asks
  pub kept : new ≡ old ++ kept_of asks verdicts
  pub judged : run.tells → AreVerdicts (limit_of run.limits) old asks verdicts new

-- the same, behind what was in the air, if that came to the history
pub record AreSettled (run : Run) (flight : Option FlightView) (old : List Push) (asks : List PushAsk) (verdicts : List Verdict) (new : List Push) : Type 0 where
  pub mid : List Push
  pub mends : Mends old flight mid
  pub verdicts_are : HaveVerdicts run mid asks verdicts new

-- at least one of the pushes would be kept behind this history
pub record SomeWouldBeKept (run : Run) (history : List Push) (asks : List PushAsk) : Type 0 where
  pub verdicts : List Verdict
  pub last : List Push
  pub judged : AreVerdicts (limit_of run.limits) history asks verdicts last
  pub some : is_some_kept verdicts ≡ true

-- ---- what is in the air without a verdict

-- these pushes are those of the asks that would be kept behind the history
abbrev pub WouldBeKept : Run → List Push → List PushAsk → List Push → Type 0
WouldBeKept run history asks pushes = (verdicts : List Verdict) × AreVerdicts (limit_of run.limits) history asks verdicts (history ++ pushes)

-- What is in the air where pushes have no verdict: nothing; or what was, where what came of it isn't known yet, and then the
-- history stays; or, where the disk failed, those of them that would be kept behind the history.
abbrev pub AreLeft : Run → Option FlightView → List Push → List PushAsk → SettleFault → Option FlightView → List Push → Type 0
AreLeft run flight old asks why left new =
    (in_flight left ≡ [])
    ⊎ (((left ≡ flight) × (new ≡ old)) ⊎ (((count : ℕ) × (why ≡ fault.Disk count)) × WouldBeKept run new asks (in_flight left)))

-- the same of one push
abbrev pub IsLeft : Option FlightView → List Push → Push → Refusal → Option FlightView → List Push → Type 0
IsLeft flight old push refusal left new =
    (in_flight left ≡ [])
    ⊎ (((left ≡ flight) × (new ≡ old)) ⊎ (((count : ℕ) × (refusal ≡ Disk count)) × (in_flight left ≡ push ∷ [])))
