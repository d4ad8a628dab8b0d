-- What a request means: a write, a query, or the first refusal in the order of refusals.
use Rattle.std.specs.Prelude.{◌≡◌, ◌⊎◌, ℕ, true, false, List, IsSome, Some, None}
use Rattle.http_session.specs.Asked.{Asked}
use Rattle.ingest.specs.Ingests.{SaysProfiles, IsIngestFault}
use Rattle.json_push.specs.Pushed.{SaysPushed, IsPushFault}
use Rattle.profile_model.specs.TenantPlaces.{wrong_place}
use Rattle.profile_model.specs.declared.part_ask.PartAsk.{PartAsk}
use Rattle.profile_model.specs.declared.push.Push.{Push as Kept}
use Rattle.query_parameters.specs.Parameters.{parameters_of}
use Rattle.routes.specs.Paths.{found_at}
use Rattle.routes.specs.declared.route.Route.{Route}
use Rattle.routes.specs.declared.route.Route.TheVariants as route
use Rattle.routes.specs.declared.route.Found.TheVariants as found
use Rattle.request_meaning.specs.Facts.{Facts}
use Rattle.faults.specs.declared.refused.Refused.{Refused}
use Rattle.faults.specs.declared.refused.Refused.TheVariants.{Fault, Memory}
use Rattle.request_meaning.specs.Forms.{is_built, route_at, route_of, tenant_of, is_encoded, front_in, least_front}
use Rattle.request_meaning.specs.Renders.{IsRenderAsk, IsRenderFault}
use Rattle.request_meaning.specs.LabelAsks.{IsLabelAsk, IsLabelFault, method_of}
use Rattle.request_meaning.specs.declared.ask.Ask.{Ask}
use Rattle.request_meaning.specs.declared.ask.Ask.TheVariants as ask
use Rattle.request_meaning.specs.declared.form.PushForm.{PushForm}
use Rattle.request_meaning.specs.declared.form.PushForm.TheVariants as written
use Rattle.request_meaning.specs.declared.meaning.Meaning.{Meaning}
use Rattle.request_meaning.specs.declared.meaning.Meaning.TheVariants.{Write, Query}
use Rattle.request_meaning.specs.declared.meaning.Meant.{Meant}
use Rattle.request_meaning.specs.declared.method.LabelMethod.TheVariants.{Names, Values, Series}
use Rattle.request_meaning.specs.declared.refusal.Refusal.{Refusal}
use Rattle.request_meaning.specs.declared.refusal.Refusal.TheVariants as refused

-- the request has a route that is built, and names a tenant
pub record IsRouted (facts : Facts) (asked : Asked) (tenant : List ℕ) : Type 0 where
  pub route : IsSome (route_at asked)
  pub named : tenant_of facts asked ≡ Some tenant
  pub rightly : wrong_place tenant ≡ None

-- the request comes as far as its parameters and its body: nothing before them refuses it
pub record Reaches (facts : Facts) (asked : Asked) (one : Route) (tenant : List ℕ) : Type 0 where
  pub route_is : route_at asked ≡ Some one
  pub named : tenant_of facts asked ≡ Some tenant
  pub rightly : wrong_place tenant ≡ None
  pub plain : is_encoded asked ≡ false
  pub asks : IsSome (front_in asked.front)

-- the request is a write of this push, in this form
abbrev pub IsWrite : Facts → Asked → PushForm → Kept → Type 0
IsWrite facts asked written.Ingest push =
    Reaches facts asked route.Ingest push.tenant × SaysProfiles (parameters_of asked.query) asked.body asked.moment push.profiles
IsWrite facts asked written.Json push = Reaches facts asked route.Push push.tenant × SaysPushed asked.body asked.moment push.profiles

-- the request is this query
abbrev pub IsAsk : Facts → Asked → Ask → Type 0
IsAsk facts asked (ask.Render what) = Reaches facts asked route.Render what.part.tenant × IsRenderAsk (parameters_of asked.query) asked.moment what
IsAsk facts asked (ask.Labels what) =
    Reaches facts asked (route_of (method_of what.query)) what.part.tenant × IsLabelAsk (method_of what.query) asked.body what

-- what a query asks of each part of a history
abbrev pub part_of : Ask → PartAsk
part_of (ask.Render what) = what.part
part_of (ask.Labels what) = what.part

-- the request comes so far that memory is taken for it
abbrev pub TakesMemory : Facts → Asked → Type 0
TakesMemory facts asked = (one : Route) × (tenant : List ℕ) × Reaches facts asked one tenant

-- method and path name no route, one with another method, or one that isn't built
abbrev pub IsMisrouted : Asked → Refusal → Type 0
IsMisrouted asked refused.NoRoute = found_at asked.method asked.path ≡ found.NoRoute
IsMisrouted asked (refused.WrongMethod method) = found_at asked.method asked.path ≡ found.WrongMethod method
IsMisrouted asked refused.Unbuilt = (one : Route) × (found_at asked.method asked.path ≡ found.Route one) × (is_built one ≡ false)
IsMisrouted asked refusal = ⊥

-- the request is refused, whatever its parameters and its body say
abbrev pub IsRefusedOutright : Facts → Asked → Refusal → Type 0
IsRefusedOutright facts asked refused.NoTenant = IsSome (route_at asked) × (tenant_of facts asked ≡ None)
IsRefusedOutright facts asked (refused.BadTenant at) =
    IsSome (route_at asked) × ((tenant : List ℕ) × (tenant_of facts asked ≡ Some tenant) × (wrong_place tenant ≡ Some at))
IsRefusedOutright facts asked refused.Encoded = (tenant : List ℕ) × IsRouted facts asked tenant × (is_encoded asked ≡ true)
IsRefusedOutright facts asked refused.Front =
    (tenant : List ℕ) × IsRouted facts asked tenant × (is_encoded asked ≡ false) × (front_in asked.front ≡ None)
IsRefusedOutright facts asked refusal = IsMisrouted asked refusal

-- the first fault of the parameters and the body of a request to ingest, and of a push
abbrev pub IsWriteFault : Asked → Refusal → Type 0
IsWriteFault asked (refused.Ingest fault) = IsIngestFault (parameters_of asked.query) asked.body asked.moment fault
IsWriteFault asked refusal = ⊥

abbrev pub IsPushedFault : Asked → Refusal → Type 0
IsPushedFault asked (refused.Push fault) = IsPushFault asked.body asked.moment fault
IsPushedFault asked refusal = ⊥

-- the first fault of what is read for the request's route
abbrev pub IsReadFault : Asked → Route → Refusal → Type 0
IsReadFault asked route.Ingest = IsWriteFault asked
IsReadFault asked route.Push = IsPushedFault asked
IsReadFault asked route.Render = IsRenderFault (parameters_of asked.query) asked.moment
IsReadFault asked route.LabelNames = IsLabelFault Names asked.body
IsReadFault asked route.LabelValues = IsLabelFault Values asked.body
IsReadFault asked route.Series = IsLabelFault Series asked.body
IsReadFault asked one = λ refusal. ⊥

-- the request is refused, and this is the first refusal
abbrev pub IsRefused : Facts → Asked → Refusal → Type 0
IsRefused facts asked refusal =
    IsRefusedOutright facts asked refusal
    ⊎ ((one : Route) × (tenant : List ℕ) × Reaches facts asked one tenant × IsReadFault asked one refusal)

-- what the request means, where it isn't refused
abbrev pub Means : Facts → Asked → Meaning → Type 0
Means facts asked (Write form push) = IsWrite facts asked form push
Means facts asked (Query what) = IsAsk facts asked what

-- the same, and how many pushes its tenant must have
abbrev pub IsMeant : Facts → Asked → Meant → Type 0
IsMeant facts asked meant = Means facts asked meant.what × (meant.least_front ≡ least_front asked)

-- why a request isn't served: its first refusal; or memory ran out, once memory is taken for it
abbrev pub IsUnserved : Facts → Asked → Refused Refusal → Type 0
IsUnserved facts asked (Fault refusal) = IsRefused facts asked refusal
IsUnserved facts asked Memory = TakesMemory facts asked
