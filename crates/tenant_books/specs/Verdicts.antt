-- What becomes of pushes that ask to be kept: they are judged in order, each after those that were kept before it.
use Rattle.std.specs.Prelude.{◌≡◌, ℕ, ◌+◌, ◌<◌, ◌≤◌, List, [], ◌∷◌, ◌++◌, length}
use Rattle.profile_model.specs.Pushes.{profiles_total}
use Rattle.profile_model.specs.declared.push.Push.{Push}
use Rattle.push_history.specs.History.{front_of, tenant_total}
use Rattle.tenant_books.specs.declared.asks.PushAsk.{PushAsk}
use Rattle.tenant_books.specs.declared.verdict.Verdict.{Verdict}
use Rattle.tenant_books.specs.declared.verdict.Verdict.TheVariants.{Kept, FrontAhead, OverLimit}

-- the tenant has fewer pushes than were asked for
abbrev pub IsAhead : List Push → PushAsk → Type 0
IsAhead history ask = front_of history ask.push.tenant < ask.asked

-- what the tenant's values come to with the push
abbrev pub total_with : List Push → Push → ℕ
total_with history push = tenant_total history push.tenant + profiles_total push.profiles

-- A push is kept where its tenant has as many pushes as were asked for, and its values stay within the tenant's limit.
abbrev pub IsVerdict : (List ℕ → ℕ) → List Push → PushAsk → Verdict → Type 0
IsVerdict limit history ask (FrontAhead asked front) = IsAhead history ask × (asked ≡ ask.asked) × (front ≡ front_of history ask.push.tenant)
IsVerdict limit history ask (OverLimit kept push told front) =
    (ask.asked ≤ front_of history ask.push.tenant) × (limit ask.push.tenant < total_with history ask.push)
    × (kept ≡ tenant_total history ask.push.tenant) × (push ≡ profiles_total ask.push.profiles) × (told ≡ limit ask.push.tenant)
    × (front ≡ front_of history ask.push.tenant)
IsVerdict limit history ask (Kept receipt) =
    (ask.asked ≤ front_of history ask.push.tenant) × (total_with history ask.push ≤ limit ask.push.tenant)
    × (receipt.place ≡ length history) × (receipt.front ≡ front_of history ask.push.tenant + 1)

-- the push behind the history, if it was kept
abbrev pub with_kept : List Push → Push → Verdict → List Push
with_kept history push (Kept receipt) = history ++ push ∷ []
with_kept history push (FrontAhead asked front) = history
with_kept history push (OverLimit kept adds told front) = history

-- the pushes whose verdict is that they are kept, in order
abbrev pub kept_of : List PushAsk → List Verdict → List Push
kept_of [] verdicts = []
kept_of (ask ∷ asks) [] = []
kept_of (ask ∷ asks) (verdict ∷ verdicts) = with_kept [] ask.push verdict ++ kept_of asks verdicts

-- each ask has its verdict, judged in order after those kept before it; the last history has all that were kept
abbrev pub AreVerdicts : (List ℕ → ℕ) → List Push → List PushAsk → List Verdict → List Push → Type 0
AreVerdicts limit history [] [] last = last ≡ history
AreVerdicts limit history (ask ∷ asks) (verdict ∷ verdicts) last =
    IsVerdict limit history ask verdict × AreVerdicts limit (with_kept history ask.push verdict) asks verdicts last
AreVerdicts limit history [] (verdict ∷ verdicts) last = ⊥
AreVerdicts limit history (ask ∷ asks) [] last = ⊥
