-- What a request means, from what its parts do.
use Rattle.std.proofs.Common.{◌≡◌, ◌∙◌, Bool, true, false, List, ℕ, Some, None, inr, refl, sym, ap, subst}
use Rattle.std.specs.Prelude.{Option, if◌then◌else◌}
use Rattle.faults.specs.Answers.{IfFault, IsMapped}
use Rattle.faults.specs.declared.refused.Refused.{Refused}
use Rattle.faults.specs.declared.refused.Refused.TheVariants.{Fault, Memory}
use Rattle.http_session.specs.Asked.{Asked}
use Rattle.routes.specs.declared.route.Route.{Route}
use Rattle.routes.specs.declared.route.Route.TheVariants as route
use Rattle.routes.specs.Paths.{found_at}
use Rattle.routes.specs.declared.route.Found.{Found}
use Rattle.routes.specs.declared.route.Found.TheVariants as found
use Rattle.request_meaning.specs.Facts.{Facts}
use Rattle.request_meaning.specs.Forms.{built_route, is_built, route_at, route_of}
use Rattle.request_meaning.specs.LabelAsks.{IsLabelAsk, IsLabelFault}
use Rattle.request_meaning.specs.Meanings.{IsReadFault, IsUnserved, Means, Reaches}
use Rattle.request_meaning.specs.ReadParts.{Says, SaysLabels}
use Rattle.request_meaning.specs.declared.ask.Ask.TheVariants as ask
use Rattle.request_meaning.specs.declared.form.PushForm.TheVariants as written
use Rattle.request_meaning.specs.declared.meaning.Meaning.{Meaning}
use Rattle.request_meaning.specs.declared.meaning.Meaning.TheVariants.{Write, Query}
use Rattle.request_meaning.specs.declared.method.LabelMethod.{LabelMethod}
use Rattle.request_meaning.specs.declared.method.LabelMethod.TheVariants.{Names, Values, Series}
use Rattle.request_meaning.specs.declared.refusal.Refusal.{Refusal}

labels_mean : (facts : Facts) (asked : Asked) (method : LabelMethod) (tenant : List ℕ) (meaning : Meaning) → Reaches facts asked (route_of method) tenant
    → SaysLabels asked method tenant meaning → Means facts asked meaning
labels_mean facts asked method tenant (Query (ask.Labels what)) reach (same, is, asks) = (
  subst (λ one. Reaches facts asked (route_of one) what.part.tenant) (sym is) (subst (Reaches facts asked (route_of method)) (sym same) reach),
  subst (λ one. IsLabelAsk one asked.body what) (sym is) asks,
)
labels_mean facts asked method tenant meaning reach says = absurd says

-- what the parameters and the body of a request that comes so far say is what it means
pub says_meaning : (facts : Facts) (asked : Asked) (one : Route) (tenant : List ℕ) (meaning : Meaning) → Reaches facts asked one tenant
    → Says asked one tenant meaning → Means facts asked meaning
says_meaning facts asked route.Ingest tenant (Write written.Ingest push) reach (same, says) = (subst (Reaches facts asked route.Ingest) (sym same) reach, says)
says_meaning facts asked route.Push tenant (Write written.Json push) reach (same, says) = (subst (Reaches facts asked route.Push) (sym same) reach, says)
says_meaning facts asked route.Render tenant (Query (ask.Render what)) reach (same, asks) = (subst (Reaches facts asked route.Render) (sym same) reach, asks)
says_meaning facts asked route.LabelNames tenant meaning reach says = labels_mean facts asked Names tenant meaning reach says
says_meaning facts asked route.LabelValues tenant meaning reach says = labels_mean facts asked Values tenant meaning reach says
says_meaning facts asked route.Series tenant meaning reach says = labels_mean facts asked Series tenant meaning reach says
says_meaning facts asked one tenant meaning reach says = absurd says

-- and what stops it there is why it isn't served
pub stopped_at : (facts : Facts) (asked : Asked) (one : Route) (tenant : List ℕ) (refused : Refused Refusal) → Reaches facts asked one tenant
    → IfFault (IsReadFault asked one) refused → IsUnserved facts asked refused
stopped_at facts asked one tenant (Fault refusal) reach stops = inr (one, tenant, reach, stops)
stopped_at facts asked one tenant Memory reach stops = (one, tenant, reach)

-- a fault that is told by another, which says what the first did
pub told_so : {F G : Type 0} {R : F → G → Type 0} {P : F → Type 0} {Q : G → Type 0} (before : Refused F) (after : Refused G)
    → IsMapped R before after → ((fault : F) (other : G) → R fault other → P fault → Q other) → IfFault P before → IfFault Q after
told_so (Fault fault) (Fault other) mapped says holds = says fault other mapped holds
told_so (Fault fault) Memory mapped says holds = absurd mapped
told_so Memory (Fault other) mapped says holds = absurd mapped
told_so Memory Memory mapped says holds = tt

-- what stops a query for labels stops it at its route
pub labels_fault : (asked : Asked) (method : LabelMethod) (refused : Refused Refusal) → IfFault (IsLabelFault method asked.body) refused
    → IfFault (IsReadFault asked (route_of method)) refused
labels_fault asked Names refused stops = stops
labels_fault asked Values refused stops = stops
labels_fault asked Series refused stops = stops

none_is_none : {one : Route} → ◌≡◌ {A = Option Route} None (Some one) → ⊥
none_is_none is = cc

built : (one other : Route) (b : Bool) → is_built other ≡ b → ◌≡◌ {A = Option Route} (if b then Some other else None) (Some one) → is_built one ≡ true
built one other true is same = ap is_built (one_route same) ∙ is
  where
    one_route : ◌≡◌ {A = Option Route} (Some other) (Some one) → one ≡ other
    one_route is_same = cc
built one other false is same = absurd (none_is_none same)

-- a request that comes so far has a route that is built
pub reached_built : (asked : Asked) (one : Route) → route_at asked ≡ Some one → is_built one ≡ true
reached_built asked one is = by (found_at asked.method asked.path) is
  where
    by : (reached : Found) → built_route reached ≡ Some one → is_built one ≡ true
    by (found.Route other) here = built one other (is_built other) refl here
    by (found.WrongMethod method) here = absurd (none_is_none here)
    by found.NoRoute here = absurd (none_is_none here)
