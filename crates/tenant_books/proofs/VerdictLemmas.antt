-- Verdicts, one more and all of them.
use Rattle.std.proofs.Common.{◌≡◌, ◌+◌, ◌≤◌, ◌<◌, ◌∙◌, ℕ, List, [], ◌∷◌, ◌++◌, length, refl, sym, ap, subst, arith, Bool, true, false}
use Rattle.std.specs.Prelude.{◌&&◌, ◌||◌, nat_le}
use Rattle.std.specs.List.{list_any}
use Rattle.std.proofs.lemmas.Bool.{le-leb, lt-leb}
use Rattle.std.proofs.lemmas.List.{append_assoc, length_push}
use Rattle.profile_model.specs.Limits.{total_bound}
use Rattle.profile_model.specs.Pushes.{profiles_total}
use Rattle.profile_model.specs.declared.push.Push.{Push}
use Rattle.push_history.specs.History.{HasBoundedTotals, front_of, tenant_total}
use Rattle.push_history.proofs.HistoryLemmas.{bounded-push}
use Rattle.tenant_books.specs.declared.asks.PushAsk.{PushAsk}
use Rattle.tenant_books.specs.declared.verdict.Verdict.{Verdict}
use Rattle.tenant_books.specs.declared.verdict.Verdict.TheVariants.{Kept, FrontAhead, OverLimit}
use Rattle.tenant_books.specs.Books.{AreBooksOf, BooksView, standing_in}
use Rattle.tenant_books.specs.Keeping.{is_kept, is_kept_alone, is_some_kept}
use Rattle.tenant_books.specs.Limits.{LimitsView, limit_of}
use Rattle.tenant_books.specs.Verdicts.{AreVerdicts, IsVerdict, with_kept}

-- one ask more, judged after all before it
pub verdicts-more : (limit : List ℕ → ℕ) (history : List Push) (asks : List PushAsk) (verdicts : List Verdict) (last : List Push) (ask : PushAsk) (verdict : Verdict)
    → AreVerdicts limit history asks verdicts last → IsVerdict limit last ask verdict
    → AreVerdicts limit history (asks ++ ask ∷ []) (verdicts ++ verdict ∷ []) (with_kept last ask.push verdict)
verdicts-more limit history [] [] last ask verdict are is = (subst (λ before. IsVerdict limit before ask verdict) are is, ap (λ before. with_kept before ask.push verdict) are)
verdicts-more limit history [] (one ∷ verdicts) last ask verdict are is = absurd are
verdicts-more limit history (one ∷ asks) [] last ask verdict are is = absurd are
verdicts-more limit history (one ∷ asks) (told ∷ verdicts) last ask verdict are is =
    (are.0, verdicts-more limit (with_kept history one.push told) asks verdicts last ask verdict are.1 is)

-- ---- a push behind a history and those kept since

pub kept-behind : (history kept : List Push) (push : Push) (verdict : Verdict) → history ++ with_kept kept push verdict ≡ with_kept (history ++ kept) push verdict
kept-behind history kept push (Kept receipt) = sym (append_assoc history kept (push ∷ []))
kept-behind history kept push (FrontAhead asked front) = refl
kept-behind history kept push (OverLimit held adds limit front) = refl

pub kept-few : (kept : List Push) (push : Push) (verdict : Verdict) → length (with_kept kept push verdict) ≤ length kept + 1
kept-few kept push (Kept receipt) = omega (arith, length_push kept push)
kept-few kept push (FrontAhead asked front) = omega arith
kept-few kept push (OverLimit held adds limit front) = omega arith

pub kept-grows : (kept : List Push) (push : Push) (verdict : Verdict) → length kept ≤ length (with_kept kept push verdict)
kept-grows kept push (Kept receipt) = omega (arith, length_push kept push)
kept-grows kept push (FrontAhead asked front) = omega arith
kept-grows kept push (OverLimit held adds limit front) = omega arith

pub kept-bounded : (kept : List Push) (push : Push) (verdict : Verdict) → HasBoundedTotals kept
    → (is_kept verdict ≡ true → tenant_total kept push.tenant + profiles_total push.profiles < total_bound) → HasBoundedTotals (with_kept kept push verdict)
kept-bounded kept push (Kept receipt) bounded within = bounded-push kept push bounded (within refl)
kept-bounded kept push (FrontAhead asked front) bounded within = bounded
kept-bounded kept push (OverLimit held adds limit front) bounded within = bounded

pub verdict-bounded : (limit : List ℕ → ℕ) (history : List Push) (ask : PushAsk) (verdict : Verdict) → HasBoundedTotals history → limit ask.push.tenant < total_bound
    → IsVerdict limit history ask verdict → HasBoundedTotals (with_kept history ask.push verdict)
verdict-bounded limit history ask (Kept receipt) bounded low is = let fits = is.1 in bounded-push history ask.push bounded (omega arith)
verdict-bounded limit history ask (FrontAhead asked front) bounded low is = bounded
verdict-bounded limit history ask (OverLimit held adds told front) bounded low is = bounded

-- ---- there is one verdict

one-verdict : (limit : List ℕ → ℕ) (history : List Push) (ask : PushAsk) (verdict other : Verdict) → IsVerdict limit history ask verdict → IsVerdict limit history ask other → verdict ≡ other
one-verdict limit history ask (Kept receipt) (Kept other) is so =
    ap Kept (λ i. record { place = (is.2 ∙ sym so.2) i; front = (is.3 ∙ sym so.3) i })
one-verdict limit history ask (FrontAhead asked front) (FrontAhead other told) is so = λ i. FrontAhead ((is.1 ∙ sym so.1) i) ((is.2 ∙ sym so.2) i)
one-verdict limit history ask (OverLimit held adds told front) (OverLimit one two three four) is so =
    λ i. OverLimit ((is.2 ∙ sym so.2) i) ((is.3 ∙ sym so.3) i) ((is.4 ∙ sym so.4) i) ((is.5 ∙ sym so.5) i)
one-verdict limit history ask (Kept receipt) (FrontAhead asked front) is so = let a = is.0 in let b = so.0 in absurd (omega arith)
one-verdict limit history ask (Kept receipt) (OverLimit held adds told front) is so = let a = is.1 in let b = so.1 in absurd (omega arith)
one-verdict limit history ask (FrontAhead asked front) (Kept receipt) is so = let a = is.0 in let b = so.0 in absurd (omega arith)
one-verdict limit history ask (FrontAhead asked front) (OverLimit held adds told last) is so = let a = is.0 in let b = so.0 in absurd (omega arith)
one-verdict limit history ask (OverLimit held adds told front) (Kept receipt) is so = let a = is.1 in let b = so.1 in absurd (omega arith)
one-verdict limit history ask (OverLimit held adds told front) (FrontAhead asked last) is so = let a = is.0 in let b = so.0 in absurd (omega arith)

pub one-judgement : (limit : List ℕ → ℕ) (history : List Push) (asks : List PushAsk) (verdicts others : List Verdict) (last other : List Push)
    → AreVerdicts limit history asks verdicts last → AreVerdicts limit history asks others other → (verdicts ≡ others) × (last ≡ other)
one-judgement limit history [] [] [] last other are so = (refl, are ∙ sym so)
one-judgement limit history [] [] (v ∷ others) last other are so = absurd so
one-judgement limit history [] (v ∷ verdicts) others last other are so = absurd are
one-judgement limit history (ask ∷ asks) [] others last other are so = absurd are
one-judgement limit history (ask ∷ asks) (v ∷ verdicts) [] last other are so = absurd so
one-judgement limit history (ask ∷ asks) (v ∷ verdicts) (w ∷ others) last other are so =
    let same = one-verdict limit history ask v w are.0 so.0 in
    let rest = one-judgement limit (with_kept history ask.push v) asks verdicts others last other are.1
    (subst (λ told. AreVerdicts limit (with_kept history ask.push told) asks others other) (sym same) so.1) in
    ((λ i. same i ∷ rest.0 i), rest.1)

-- ---- a history never gets shorter by verdicts

pub verdicts-grow : (limit : List ℕ → ℕ) (history : List Push) (asks : List PushAsk) (verdicts : List Verdict) (last : List Push)
    → AreVerdicts limit history asks verdicts last → length history ≤ length last
verdicts-grow limit history [] [] last are = let same = ap (length {A = Push}) are in omega arith
verdicts-grow limit history [] (v ∷ verdicts) last are = absurd are
verdicts-grow limit history (ask ∷ asks) [] last are = absurd are
verdicts-grow limit history (ask ∷ asks) (v ∷ verdicts) last are =
    let grown = kept-grows history ask.push v in
    let rest = verdicts-grow limit (with_kept history ask.push v) asks verdicts last are.1 in
    omega arith

-- what the first asks lead to is no longer than what all lead to
pub first-short : (limit : List ℕ → ℕ) (history : List Push) (asks more : List PushAsk) (verdicts others : List Verdict) (reached last : List Push)
    → AreVerdicts limit history asks verdicts reached → AreVerdicts limit history (asks ++ more) others last → length reached ≤ length last
first-short limit history [] more [] others reached last are so =
    let same = ap (length {A = Push}) are in
    let grown = verdicts-grow limit history more others last so in
    omega arith
first-short limit history [] more (v ∷ verdicts) others reached last are so = absurd are
first-short limit history (ask ∷ asks) more [] others reached last are so = absurd are
first-short limit history (ask ∷ asks) more (v ∷ verdicts) [] reached last are so = absurd so
first-short limit history (ask ∷ asks) more (v ∷ verdicts) (w ∷ others) reached last are so =
    let same = one-verdict limit history ask v w are.0 so.0 in
    first-short limit (with_kept history ask.push v) asks more verdicts others reached last are.1
    (subst (λ told. AreVerdicts limit (with_kept history ask.push told) (asks ++ more) others last) (sym same) so.1)

-- ---- whether any is kept

alone : (books : BooksView) (limits : LimitsView) (history : List Push) (ask : PushAsk) (verdict : Verdict) → AreBooksOf books history
    → IsVerdict (limit_of limits) history ask verdict → is_kept_alone books limits ask ≡ is_kept verdict
alone books limits history ask verdict are is = by verdict is
  where
    tenant : List ℕ
    tenant = ask.push.tenant

    front : (standing_in books tenant).front ≡ front_of history tenant
    front = are.front tenant

    total : (standing_in books tenant).total ≡ tenant_total history tenant
    total = are.total tenant

    short : nat_le ask.asked (standing_in books tenant).front ≡ false → is_kept_alone books limits ask ≡ false
    short less = ap (λ b. b && nat_le ((standing_in books tenant).total + profiles_total ask.push.profiles) (limit_of limits tenant)) less

    enough : (fits : Bool) → nat_le ask.asked (standing_in books tenant).front ≡ true
        → nat_le ((standing_in books tenant).total + profiles_total ask.push.profiles) (limit_of limits tenant) ≡ fits → is_kept_alone books limits ask ≡ fits
    enough fits asks told = (λ i. asks i && told i)

    by : (verdict : Verdict) → IsVerdict (limit_of limits) history ask verdict → is_kept_alone books limits ask ≡ is_kept verdict
    by (Kept receipt) is =
        let asked = is.0 in let fits = is.1 in
        enough true (le-leb ask.asked (standing_in books tenant).front (omega arith)) (le-leb ((standing_in books tenant).total + profiles_total ask.push.profiles) (limit_of limits tenant) (omega arith))
    by (FrontAhead asked told) is = let ahead = is.0 in short (lt-leb ask.asked (standing_in books tenant).front (omega arith))
    by (OverLimit held adds told last) is =
        let asked = is.0 in let over = is.1 in
        enough false (le-leb ask.asked (standing_in books tenant).front (omega arith)) (lt-leb ((standing_in books tenant).total + profiles_total ask.push.profiles) (limit_of limits tenant) (omega arith))

pub some-kept : (books : BooksView) (limits : LimitsView) (history : List Push) (asks : List PushAsk) (verdicts : List Verdict) (last : List Push) → AreBooksOf books history
    → AreVerdicts (limit_of limits) history asks verdicts last → list_any (is_kept_alone books limits) asks ≡ is_some_kept verdicts
some-kept books limits history [] [] last are told = refl
some-kept books limits history [] (v ∷ verdicts) last are told = absurd told
some-kept books limits history (ask ∷ asks) [] last are told = absurd told
some-kept books limits history (ask ∷ asks) (Kept receipt ∷ verdicts) last are told =
    ap (λ b. b || list_any (is_kept_alone books limits) asks) (alone books limits history ask (Kept receipt) are told.0)
some-kept books limits history (ask ∷ asks) (FrontAhead asked front ∷ verdicts) last are told =
    (λ i. alone books limits history ask (FrontAhead asked front) are told.0 i || some-kept books limits history asks verdicts last are told.1 i)
some-kept books limits history (ask ∷ asks) (OverLimit held adds limit front ∷ verdicts) last are told =
    (λ i. alone books limits history ask (OverLimit held adds limit front) are told.0 i || some-kept books limits history asks verdicts last are told.1 i)
