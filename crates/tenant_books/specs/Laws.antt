-- What holds of all verdicts.
use Rattle.std.specs.Prelude.{◌≡◌, ℕ, List}
use Rattle.profile_model.specs.declared.push.Push.{Push}
use Rattle.tenant_books.specs.declared.asks.PushAsk.{PushAsk}
use Rattle.tenant_books.specs.declared.verdict.Verdict.{Verdict}
use Rattle.tenant_books.specs.Verdicts.{AreVerdicts}

-- the same pushes over the same history have the same verdicts, and leave the same history
abbrev pub OneJudgement : Type 0
OneJudgement =
    (limit : List ℕ → ℕ) (history : List Push) (asks : List PushAsk) (verdicts others : List Verdict) (last other : List Push)
    → AreVerdicts limit history asks verdicts last → AreVerdicts limit history asks others other → (verdicts ≡ others) × (last ≡ other)

-- all pushes that ask, over every history, have verdicts
abbrev pub EachIsJudged : Type 0
EachIsJudged =
    (limit : List ℕ → ℕ) (history : List Push) (asks : List PushAsk)
    → (verdicts : List Verdict) × (last : List Push) × AreVerdicts limit history asks verdicts last
