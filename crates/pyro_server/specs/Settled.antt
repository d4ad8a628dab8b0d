-- What becomes of a push.
use Rattle.std.specs.Prelude.{◌≡◌, ◌+◌, ◌<◌, ◌≤◌, ℕ, List, [], ◌∷◌, ◌++◌}
use Rattle.profile_model.specs.Pushes.{profiles_total}
use Rattle.push_history.specs.History.{front_of, tenant_total}
use Rattle.profile_model.specs.declared.push.Push.{Push}
use Rattle.api_replies.specs.declared.verdict.Verdict.{Verdict}
use Rattle.api_replies.specs.declared.verdict.Verdict.TheVariants.{Kept, FrontAhead, OverLimit, Memory}

-- The push is kept at the history's end, and told how many its tenant has then; or its tenant has fewer pushes than it asks
-- for, or its tenant's total would pass the limit, and the history stays.
abbrev pub IsSettled : ℕ → List Push → Push → ℕ → Verdict → List Push → Type 0
IsSettled limit history push least (Kept front) next =
    (least ≤ front_of history push.tenant)
    × (front ≡ front_of history push.tenant + 1)
    × (tenant_total history push.tenant + profiles_total push.profiles ≤ limit)
    × (next ≡ history ++ push ∷ [])
IsSettled limit history push least (FrontAhead asked front) next =
    (front_of history push.tenant < least) × (asked ≡ least) × (front ≡ front_of history push.tenant) × (next ≡ history)
IsSettled limit history push least (OverLimit kept adds told front) next =
    (least ≤ front_of history push.tenant) × (kept ≡ tenant_total history push.tenant) × (adds ≡ profiles_total push.profiles) × (told ≡ limit)
    × (front ≡ front_of history push.tenant) × (limit < kept + adds) × (next ≡ history)
IsSettled limit history push least Memory next = ⊥

-- it is settled so, or memory ran out, and the history stays
abbrev pub IsSettledOrNot : ℕ → List Push → Push → ℕ → Verdict → List Push → Type 0
IsSettledOrNot limit history push least Memory next = next ≡ history
IsSettledOrNot limit history push least verdict next = IsSettled limit history push least verdict next
