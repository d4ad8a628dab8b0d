-- What `ServedAt` says and rules out, row by row.
use Rattle.std.proofs.Common.{◌≡◌, ◌<◌, ◌∙◌, ℕ, true, List, [], ◌∷◌, ◌++◌, length, get_or, refl, sym, ap, arith, length-append}
use Rattle.std.specs.Prelude.{nat_eq}
use Rattle.std.specs.Cmp.Lexicographic.{pointwise, nat_list_eq_equiv}
use Rattle.std.proofs.Math.Seq.{get_or-append_seam}
use Rattle.std.proofs.lemmas.List.Elements.{All-head, filter-append}
use Rattle.push_history.specs.History.{pushes_of}
use Rattle.profile_model.specs.declared.push.Push.{Push}
use Rattle.request_meaning.specs.Facts.{Facts}
use Rattle.pyro_server.specs.Given.{Answer}
use Rattle.pyro_server.specs.ServedAt.{FrontsRise, IsAcknowledged, IsAtLeast, IsKept, Shows, StandsAt}

own_first : (push : Push) (after : List Push) → pushes_of (push ∷ after) push.tenant ≡ push ∷ pushes_of after push.tenant
own_first push after = let same : pointwise nat_eq push.tenant push.tenant ≡ true = nat_list_eq_equiv.refl push.tenant in rw same refl

-- a push that stands at a place is the item of that number among its tenant's pushes
pub stands_as_item : (base history : List Push) (push other : Push) (place : ℕ) → StandsAt base history push place → get_or (pushes_of history push.tenant) place other ≡ push
stands_as_item base history push other place stands =
    let mine = pushes_of stands.before push.tenant in
    let rest = pushes_of stands.after push.tenant in
    let is : pushes_of history push.tenant ≡ mine ++ push ∷ rest =
    ap (λ (pushes : List Push). pushes_of pushes push.tenant) stands.is ∙ filter-append _ stands.before (push ∷ stands.after)
    ∙ ap (λ (last : List Push). mine ++ last) (own_first push stands.after) in
    ap (λ (pushes : List Push). get_or pushes place other) is ∙ ap (λ n. get_or (mine ++ push ∷ rest) n other) (sym stands.at) ∙ get_or-append_seam mine push rest other

-- a reply over fewer pushes than the tenant was shown before
pub no_stale_reply : (facts : Facts) (one other : Answer) (tenant : List ℕ) (high low : ℕ) → Shows facts one tenant high → Shows facts other tenant low → low < high
    → FrontsRise facts (one ∷ other ∷ []) → ⊥
no_stale_reply facts one other tenant high low shown stale less rise =
    let least = (All-head (IsAtLeast facts tenant high) other [] (rise.0 tenant high shown) low stale).0 in omega arith

-- a push that is told the front that its tenant was shown before
pub no_repeated_front : (facts : Facts) (one other : Answer) (tenant : List ℕ) (front : ℕ) → Shows facts one tenant front → Shows facts other tenant front
    → IsAcknowledged facts other → FrontsRise facts (one ∷ other ∷ []) → ⊥
no_repeated_front facts one other tenant front shown again acknowledged rise =
    let past = (All-head (IsAtLeast facts tenant front) other [] (rise.0 tenant front shown) front again).1 acknowledged in omega arith

-- a push that is told as kept, where the history stayed
pub no_empty_promise : (facts : Facts) (base : List Push) (one : Answer) → IsAcknowledged facts one → IsKept facts base base one → ⊥
no_empty_promise facts base one acknowledged kept =
    let stands = (kept acknowledged).5 in
    let behind = stands.behind in
    let long = ap length stands.is ∙ length-append stands.before ((kept acknowledged).1 ∷ stands.after) in omega arith
