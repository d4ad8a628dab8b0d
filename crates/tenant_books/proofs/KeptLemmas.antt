-- The pushes that verdicts keep.
use Rattle.std.proofs.Common.{◌≡◌, ◌+◌, ◌<◌, ◌≤◌, ◌∙◌, ⊎_elim, ℕ, List, [], ◌∷◌, ◌++◌, length, refl, sym, ap, arith, Bool, false}
use Rattle.std.proofs.lemmas.Bool.{cases_lt, or_parts, true≢false}
use Rattle.std.proofs.Math.Bool.{or-false}
use Rattle.std.proofs.lemmas.List.{append-nil, append_assoc}
use Rattle.std.proofs.lemmas.List.Elements.{All-from_recursion, recursion_from_All}
use Rattle.std.proofs.lemmas.List.Folds.{list_any-append}
use Rattle.std.specs.List.{All, AllByRecursion, list_any}
use Rattle.profile_model.specs.Pushes.{profiles_total}
use Rattle.profile_model.specs.declared.push.Push.{Push}
use Rattle.push_history.specs.History.{front_of, tenant_total}
use Rattle.tenant_books.specs.declared.asks.PushAsk.{PushAsk}
use Rattle.tenant_books.specs.declared.verdict.Verdict.{Verdict}
use Rattle.tenant_books.specs.declared.verdict.Verdict.TheVariants.{Kept, FrontAhead, OverLimit}
use Rattle.tenant_books.specs.Keeping.{is_kept, is_some_kept}
use Rattle.tenant_books.specs.Verdicts.{AreVerdicts, IsVerdict, kept_of, total_with, with_kept}
use Rattle.tenant_books.proofs.VerdictLemmas.{kept-behind}

-- one ask more, with its verdict
pub kept_more : (asks : List PushAsk) (verdicts : List Verdict) (ask : PushAsk) (verdict : Verdict) → length verdicts ≡ length asks
    → kept_of (asks ++ ask ∷ []) (verdicts ++ verdict ∷ []) ≡ with_kept (kept_of asks verdicts) ask.push verdict
kept_more [] [] ask verdict long = append-nil (with_kept [] ask.push verdict)
kept_more [] (told ∷ verdicts) ask verdict long = absurd (omega arith)
kept_more (one ∷ asks) [] ask verdict long = absurd (omega arith)
kept_more (one ∷ asks) (told ∷ verdicts) ask verdict long =
    ap (λ more. with_kept [] one.push told ++ more) (kept_more asks verdicts ask verdict (omega arith))
    ∙ kept-behind (with_kept [] one.push told) (kept_of asks verdicts) ask.push verdict

-- what holds of each push that asks holds of each that is kept
pub kept_all : (P : Push → Type 0) (asks : List PushAsk) (verdicts : List Verdict) → All (λ ask. P ask.push) asks → All P (kept_of asks verdicts)
kept_all P asks verdicts all = All-from_recursion P (kept_of asks verdicts) (each asks verdicts (recursion_from_All (λ (ask : PushAsk). P ask.push) asks all))
  where
    each : (asks : List PushAsk) (verdicts : List Verdict) → AllByRecursion (λ (ask : PushAsk). P ask.push) asks → AllByRecursion P (kept_of asks verdicts)
    each [] verdicts all = tt
    each (ask ∷ asks) [] all = tt
    each (ask ∷ asks) (Kept receipt ∷ verdicts) all = (all.0, each asks verdicts all.1)
    each (ask ∷ asks) (FrontAhead asked front ∷ verdicts) all = each asks verdicts all.1
    each (ask ∷ asks) (OverLimit held adds told front ∷ verdicts) all = each asks verdicts all.1

-- ---- whether any is kept

-- where no push is kept, no verdict keeps one
pub none_is_kept : (asks : List PushAsk) (verdicts : List Verdict) → length verdicts ≡ length asks → kept_of asks verdicts ≡ [] → is_some_kept verdicts ≡ false
none_is_kept [] [] long none = refl
none_is_kept [] (told ∷ verdicts) long none = absurd (omega arith)
none_is_kept (ask ∷ asks) [] long none = refl
none_is_kept (ask ∷ asks) (Kept receipt ∷ verdicts) long none = let wrong : ask.push ∷ kept_of asks verdicts ≡ [] = none in absurd (cc)
none_is_kept (ask ∷ asks) (FrontAhead asked front ∷ verdicts) long none = none_is_kept asks verdicts (omega arith) none
none_is_kept (ask ∷ asks) (OverLimit held adds told front ∷ verdicts) long none = none_is_kept asks verdicts (omega arith) none

-- where no verdict keeps a push, none is kept
pub kept_is_empty : (asks : List PushAsk) (verdicts : List Verdict) → is_some_kept verdicts ≡ false → kept_of asks verdicts ≡ []
kept_is_empty [] verdicts none = refl
kept_is_empty (ask ∷ asks) [] none = refl
kept_is_empty (ask ∷ asks) (Kept receipt ∷ verdicts) none = absurd (true≢false none)
kept_is_empty (ask ∷ asks) (FrontAhead asked front ∷ verdicts) none = kept_is_empty asks verdicts none
kept_is_empty (ask ∷ asks) (OverLimit held adds told front ∷ verdicts) none = kept_is_empty asks verdicts none

-- where none of some asks passes the test, the last one does not, nor does any before it
pub none_more : (test : PushAsk → Bool) (asks : List PushAsk) (ask : PushAsk) → list_any test (asks ++ ask ∷ []) ≡ false → (list_any test asks ≡ false) × (test ask ≡ false)
none_more test asks ask none =
    let parts = or_parts (list_any test asks) (list_any test (ask ∷ [])) (sym (list_any-append test asks (ask ∷ [])) ∙ none) in
    (parts.0, sym (or-false (test ask)) ∙ parts.1)

-- a push that its verdict doesn't keep leaves the history as it was
pub kept_still : (history : List Push) (push : Push) (verdict : Verdict) → is_kept verdict ≡ false → with_kept history push verdict ≡ history
kept_still history push (Kept receipt) none = absurd (true≢false none)
kept_still history push (FrontAhead asked front) none = refl
kept_still history push (OverLimit held adds told front) none = refl

-- ---- what verdicts say of lengths and of the history they leave

-- each ask has one verdict
pub verdicts_long : (limit : List ℕ → ℕ) (history : List Push) (asks : List PushAsk) (verdicts : List Verdict) (last : List Push)
    → AreVerdicts limit history asks verdicts last → length verdicts ≡ length asks
verdicts_long limit history [] [] last are = refl
verdicts_long limit history [] (told ∷ verdicts) last are = absurd are
verdicts_long limit history (ask ∷ asks) [] last are = absurd are
verdicts_long limit history (ask ∷ asks) (told ∷ verdicts) last are =
    let rest = verdicts_long limit (with_kept history ask.push told) asks verdicts last are.1 in omega arith

-- the history that they leave is the one before with the kept pushes behind it
pub verdicts_kept : (limit : List ℕ → ℕ) (history : List Push) (asks : List PushAsk) (verdicts : List Verdict) (last : List Push)
    → AreVerdicts limit history asks verdicts last → last ≡ history ++ kept_of asks verdicts
verdicts_kept limit history [] [] last are = are ∙ sym (append-nil history)
verdicts_kept limit history [] (told ∷ verdicts) last are = absurd are
verdicts_kept limit history (ask ∷ asks) [] last are = absurd are
verdicts_kept limit history (ask ∷ asks) (told ∷ verdicts) last are =
    verdicts_kept limit (with_kept history ask.push told) asks verdicts last are.1
    ∙ ap (λ before. before ++ kept_of asks verdicts) (sym (behind told))
    ∙ append_assoc history (with_kept [] ask.push told) (kept_of asks verdicts)
  where
    behind : (verdict : Verdict) → history ++ with_kept [] ask.push verdict ≡ with_kept history ask.push verdict
    behind verdict = kept-behind history [] ask.push verdict ∙ ap (λ before. with_kept before ask.push verdict) (append-nil history)

-- ---- there are verdicts

verdict_some : (limit : List ℕ → ℕ) (history : List Push) (ask : PushAsk) → (verdict : Verdict) × IsVerdict limit history ask verdict
verdict_some limit history ask = ⊎_elim ahead enough (cases_lt front ask.asked)
  where
    front : ℕ
    front = front_of history ask.push.tenant

    total : ℕ
    total = tenant_total history ask.push.tenant

    most : ℕ
    most = limit ask.push.tenant

    ahead : front < ask.asked → (verdict : Verdict) × IsVerdict limit history ask verdict
    ahead less = (FrontAhead ask.asked front, (less, refl, refl))

    enough : ask.asked ≤ front → (verdict : Verdict) × IsVerdict limit history ask verdict
    enough asks =
        ⊎_elim
        (λ over. (OverLimit total (profiles_total ask.push.profiles) most front, (asks, over, refl, refl, refl, refl)))
        (λ fits. (Kept (record { place = length history; front = front + 1 }), (asks, fits, refl, refl)))
        (cases_lt most (total_with history ask.push))

pub verdicts_some : (limit : List ℕ → ℕ) (history : List Push) (asks : List PushAsk)
    → (verdicts : List Verdict) × (last : List Push) × AreVerdicts limit history asks verdicts last
verdicts_some limit history [] = ([], history, refl)
verdicts_some limit history (ask ∷ asks) =
    let one = verdict_some limit history ask in
    let rest = verdicts_some limit (with_kept history ask.push one.0) asks in (one.0 ∷ rest.0, rest.1, (one.1, rest.2))
