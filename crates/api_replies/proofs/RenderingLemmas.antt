-- What an answer sums up.
use Rattle.std.proofs.Common.{◌≡◌, ℕ, List, [], ◌∷◌, Bool, true, false, cond, refl, ap, arith, length, take}
use Rattle.std.specs.Prelude.{◌&&◌, filter}
use Rattle.std.specs.List.{flat_map}
use Rattle.std.proofs.lemmas.List.{take_all}
use Rattle.push_history.specs.History.{pushes_of, sums_of_rows}
use Rattle.profile_model.specs.declared.profile.Profile.{Profile}
use Rattle.profile_model.specs.declared.push.Push.{Push}
use Rattle.api_replies.specs.Rendering.{is_wanted, wanted_samples, with_samples}
use Rattle.api_replies.specs.Replies.{asked_rows, is_matched}
use Rattle.request_meaning.specs.declared.ask.RenderAsk.{RenderAsk}

-- all profiles of a tenant's pushes
abbrev pub profiles_in : List Push → List ℕ → List Profile
profiles_in history tenant = flat_map (λ push. push.profiles) (pushes_of history tenant)

filter-filter : {X : Type 0} (p q : X → Bool) (xs : List X) → filter q (filter p xs) ≡ filter (λ x. p x && q x) xs
filter-filter p q [] = refl
filter-filter {X} p q (x ∷ xs) = by (p x) (filter-filter p q xs)
  where
    by : (kept : Bool) → filter q (filter p xs) ≡ filter (λ y. p y && q y) xs
        → filter q (cond kept (x ∷ filter p xs) (filter p xs)) ≡ cond (kept && q x) (x ∷ filter (λ y. p y && q y) xs) (filter (λ y. p y && q y) xs)
    by true later = ap (λ ys. cond (q x) (x ∷ ys) ys) later
    by false later = later

-- the sums of an answer are those of all the tenant's profiles that it wants
pub sums_are : (history : List Push) (ask : RenderAsk) → sums_of_rows (asked_rows history ask) ≡ with_samples [] (wanted_samples ask (profiles_in history ask.part.tenant))
sums_are history ask =
    let pushes = pushes_of history ask.part.tenant in
    let whole : take (length pushes) pushes ≡ pushes = take_all (length pushes) pushes (omega arith) in
    let rows : asked_rows history ask ≡ filter (is_wanted ask) (profiles_in history ask.part.tenant) =
    rw whole (filter-filter _ (is_matched ask) (profiles_in history ask.part.tenant)) in
    ap sums_of_rows rows
