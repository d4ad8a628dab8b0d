-- What is told of several pushes that ask together to be kept.
use Rattle.std.proofs.Common.{◌≡◌, ℕ, zero, suc, ◌≤◌, Bool, true, false, List, [], ◌∷◌, ◌++◌, map, None, Option, Err, refl, sym, ap, ◌∙◌, subst, arith}
use Rattle.std.specs.Prelude.{◌||◌, Result, Ok, IfOk, IsErrOf, OnErr, replicate}
use Rattle.std.specs.List.{All, list_any}
use Rattle.std.proofs.lemmas.Bool.{false≢true}
use Rattle.std.proofs.lemmas.List.Elements.{All-cons, All-nil, All-push, All-replicate, All-weaker}
use Rattle.disk_trait.specs.Disk.{Rose}
use Rattle.profile_model.specs.declared.push.Push.{Push}
use Rattle.tenant_books.specs.declared.asks.PushAsk.{PushAsk}
use Rattle.tenant_books.specs.declared.verdict.Verdict.{Verdict}
use Rattle.history_files.proofs.KeepLemmas.{rose_from}
use Rattle.store_core.specs.Store.{FlightView, Mends}
use Rattle.shared_store.specs.declared.refusal.Refusal.{Refusal}
use Rattle.shared_store.specs.declared.refusal.Refusal.TheVariants as refusals
use Rattle.shared_store.specs.Holds.{Run}
use Rattle.shared_store.specs.Settled.{IsFullFor, IsSettled}
use Rattle.shared_store.specs.Flushes.{AreAnswers, HasFailed, IsAnswer, is_full}

-- what a call that settles one push ensures of its answer
pub is_answer : (run : Run) (flight : Option FlightView) (old new : List Push) (ask : PushAsk) (r : Result Verdict Refusal) → IfOk r (λ verdict. IsSettled run flight old ask verdict new)
    → OnErr r (Mends old flight new) → ((records : ℕ) → IsErrOf r (refusals.Full records) → IsFullFor run new ask records) → IsAnswer run flight old ask r new
is_answer run flight old new ask (Ok verdict) is mends full = is
is_answer run flight old new ask (Err refusals.Memory) is mends full = mends
is_answer run flight old new ask (Err (refusals.Full records)) is mends full = (mends, full records refl)
is_answer run flight old new ask (Err (refusals.Disk count)) is mends full = mends

-- one push more, behind all before it
pub answers_more : (run : Run) (old mid new : List Push) (asks : List PushAsk) (told : List (Result Verdict Refusal)) (flight : Option FlightView) (ask : PushAsk) (one : Result Verdict Refusal)
    → AreAnswers run old asks told mid → (run.tells → flight ≡ None) → IsAnswer run flight mid ask one new → AreAnswers run old (asks ++ ask ∷ []) (told ++ one ∷ []) new
answers_more run old mid new [] [] flight ask one before none is =
    (flight, new, none, subst (λ (l : List Push). IsAnswer run flight l ask one new) before is, refl)
answers_more run old mid new [] (t ∷ told) flight ask one before none is = absurd before
answers_more run old mid new (x ∷ asks) [] flight ask one before none is = absurd before
answers_more run old mid new (x ∷ asks) (t ∷ told) flight ask one before none is =
    (before.0, before.1, before.2, before.3, answers_more run before.1 mid new asks told flight ask one before.4 none is)

-- ---- faults

-- the count may rise after it was told
pub failed_later : (before now later : ℕ) (told : List (Result Verdict Refusal)) → now ≤ later → All (HasFailed before now) told → All (HasFailed before later) told
failed_later before now later told rises all =
    All-weaker (HasFailed before now) (HasFailed before later) (λ one was count is. let it = was count is in (it.0, omega (arith, it.1, rises))) told all

-- and may have risen since it was seen
pub failed_since : (seen before now : ℕ) (told : List (Result Verdict Refusal)) → seen ≤ before → All (HasFailed before now) told → All (HasFailed seen now) told
failed_since seen before now told low all =
    All-weaker (HasFailed before now) (HasFailed seen now) (λ one was count is. let it = was count is in (rose_from seen before count low it.0, it.1)) told all

pub failed_more : (before now : ℕ) (told : List (Result Verdict Refusal)) (one : Result Verdict Refusal) → All (HasFailed before now) told → HasFailed before now one
    → All (HasFailed before now) (told ++ one ∷ [])
failed_more before now told one all is = All-push (HasFailed before now) told one all is

-- ---- a full index

abbrev told_of : Verdict → Result Verdict Refusal
told_of verdict = Ok verdict

none_full : (verdicts : List Verdict) → list_any is_full (map told_of verdicts) ≡ false
none_full [] = refl
none_full (verdict ∷ verdicts) = none_full verdicts

none_full_of : (n : ℕ) (one : Result Verdict Refusal) → is_full one ≡ false → list_any is_full (replicate n one) ≡ false
none_full_of zero one not = refl
none_full_of (suc n) one not = ap (λ (b : Bool). b || list_any is_full (replicate n one)) not ∙ none_full_of n one not

pub verdicts_not_full : (verdicts : List Verdict) (told : List (Result Verdict Refusal)) → told ≡ map told_of verdicts → list_any is_full told ≡ true → ⊥
verdicts_not_full verdicts told is any = false≢true (sym (none_full verdicts) ∙ ap (list_any is_full) (sym is) ∙ any)

pub refused_not_full : (n : ℕ) (one : Result Verdict Refusal) (told : List (Result Verdict Refusal)) → is_full one ≡ false → told ≡ replicate n one → list_any is_full told ≡ true → ⊥
refused_not_full n one told not is any = false≢true (sym (none_full_of n one not) ∙ ap (list_any is_full) (sym is) ∙ any)

-- ---- the same of faults

abbrev is_fault : Result Verdict Refusal → Bool
is_fault (Ok verdict) = false
is_fault (Err refusals.Memory) = false
is_fault (Err (refusals.Full records)) = false
is_fault (Err (refusals.Disk count)) = true

no_fault : (before now : ℕ) (one : Result Verdict Refusal) → is_fault one ≡ false → HasFailed before now one
no_fault before now one not count is = absurd (false≢true (sym not ∙ ap is_fault is))

none_failed : (before now : ℕ) (verdicts : List Verdict) → All (HasFailed before now) (map told_of verdicts)
none_failed before now [] = All-nil (HasFailed before now)
none_failed before now (verdict ∷ verdicts) = All-cons (HasFailed before now) (told_of verdict) (map told_of verdicts) (no_fault before now (told_of verdict) refl) (none_failed before now verdicts)

pub verdicts_failed : (before now : ℕ) (verdicts : List Verdict) (told : List (Result Verdict Refusal)) → told ≡ map told_of verdicts → All (HasFailed before now) told
verdicts_failed before now verdicts told is = subst (λ (l : List (Result Verdict Refusal)). All (HasFailed before now) l) (sym is) (none_failed before now verdicts)

pub refused_failed : (before now n : ℕ) (one : Result Verdict Refusal) (told : List (Result Verdict Refusal)) → HasFailed before now one → told ≡ replicate n one → All (HasFailed before now) told
refused_failed before now n one told failed is =
    subst (λ (l : List (Result Verdict Refusal)). All (HasFailed before now) l) (sym is) (All-replicate (HasFailed before now) n one failed)

pub memory_failed : (before now : ℕ) → HasFailed before now (Err refusals.Memory)
memory_failed before now = no_fault before now (Err refusals.Memory) refl

same_count : (told other : ℕ) → IsErrOf {T = Verdict} (Err (refusals.Disk told)) (refusals.Disk other) → told ≡ other
same_count told other is = cc

pub disk_failed : (before now told : ℕ) → (told ≡ now) × Rose before told → HasFailed before now (Err (refusals.Disk told))
disk_failed before now told failed count is =
    let same = same_count told count is in (subst (λ (n : ℕ). Rose before n) same failed.1, omega (arith, failed.0, same))
