-- Whole requests one after another.
use Rattle.std.proofs.Common.{◌≡◌, ℕ, ◌+◌, List, [], ◌∷◌, ◌++◌, length, refl, sym, subst, ap, ◌∙◌, arith, false}
use Rattle.std.proofs.lemmas.Bool.{true≢false}
use Rattle.http_session.specs.Asked.{Asked}
use Rattle.http_session.specs.Takes.{IsWhole, AreRequests, is_closed}
use Rattle.http_session.proofs.TakesLemmas.{whole_stays, leaves_open}

-- a request, and others behind it
pub requests_before : (number moment : ℕ) (bytes after : List ℕ) (asked : Asked) (requests : List Asked) (rest : List ℕ) →
    IsWhole number moment bytes asked after → asked.close ≡ false → AreRequests (number + 1) moment after requests rest →
    AreRequests number moment bytes (asked ∷ requests) rest
requests_before number moment bytes after asked requests rest whole on are = (after, whole, λ closes. absurd (true≢false (sym closes ∙ on)), are)

-- requests, and one behind them
pub requests_then : (number moment : ℕ) (bytes : List ℕ) (requests : List Asked) (rest : List ℕ) (asked : Asked) (after : List ℕ) →
    AreRequests number moment bytes requests rest → is_closed requests ≡ false → IsWhole (number + length requests) moment rest asked after →
    AreRequests number moment bytes (requests ++ asked ∷ []) after
requests_then number moment bytes [] rest asked after are on whole =
    let P : List ℕ → Type 0 = λ xs. IsWhole number moment xs asked after in
    let Q : ℕ → Type 0 = λ n. IsWhole n moment rest asked after in
    (after, subst P are (subst Q (let none : number + 0 ≡ number = omega arith in none) whole), λ closes. refl, refl)
requests_then number moment bytes (q ∷ []) rest asked after (mid, first, shut, are) on whole =
    let Q : ℕ → Type 0 = λ n. IsWhole n moment rest asked after in
    let at : number + length (q ∷ []) ≡ (number + 1) + 0 = omega arith in
    requests_before number moment bytes mid q (asked ∷ []) after first on (requests_then (number + 1) moment mid [] rest asked after are refl (subst Q at whole))
requests_then number moment bytes (q ∷ p ∷ requests) rest asked after (mid, first, shut, are) on whole =
    let Q : ℕ → Type 0 = λ n. IsWhole n moment rest asked after in
    let at : number + length (q ∷ p ∷ requests) ≡ (number + 1) + length (p ∷ requests) = omega arith in
    requests_before number moment bytes mid q ((p ∷ requests) ++ asked ∷ []) after first (leaves_open q p requests shut)
    (requests_then (number + 1) moment mid (p ∷ requests) rest asked after are on (subst Q at whole))

-- they stay where more bytes come, which are then behind their rest
pub requests_stay : (number moment : ℕ) (bytes : List ℕ) (requests : List Asked) (rest more : List ℕ) →
    AreRequests number moment bytes requests rest → AreRequests number moment (bytes ++ more) requests (rest ++ more)
requests_stay number moment bytes [] rest more are = ap (λ (xs : List ℕ). xs ++ more) are
requests_stay number moment bytes (q ∷ requests) rest more (after, whole, shut, are) =
    (after ++ more, whole_stays number moment bytes more after q whole, shut, requests_stay (number + 1) moment after requests rest more are)

-- the last of them says whether they are closed
pub closed_last : (requests : List Asked) (asked : Asked) → is_closed (requests ++ asked ∷ []) ≡ asked.close
closed_last [] asked = refl
closed_last (q ∷ []) asked = refl
closed_last (q ∷ p ∷ requests) asked = closed_last (p ∷ requests) asked
