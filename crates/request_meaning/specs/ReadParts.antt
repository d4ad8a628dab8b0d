-- What reading the parts of a request answers.
use Rattle.std.specs.Prelude.{◌≡◌, ◌<◌, ◌≤◌, ℕ, not, List, length, codes, Some, None}
use Rattle.std.specs.List.{position}
use Rattle.serde_json.specs.Data.{Data}
use Rattle.http_session.specs.Asked.{Asked}
use Rattle.ingest.specs.Ingests.{SaysProfiles}
use Rattle.json_bodies.specs.Fields.{texts_in}
use Rattle.json_bodies.specs.declared.fields.FieldFault.{FieldFault}
use Rattle.json_bodies.specs.declared.fields.FieldFault.TheVariants.{WrongKind as wrong_kind}
use Rattle.json_push.specs.Pushed.{SaysPushed}
use Rattle.query_parameters.specs.Parameters.{parameters_of}
use Rattle.routes.specs.declared.route.Route.{Route}
use Rattle.routes.specs.declared.route.Route.TheVariants as route
use Rattle.selector.specs.Matching.{Matching}
use Rattle.request_meaning.specs.LabelAsks.{AreSelectors, HasWindow, IsLabelAsk, IsSelectorsFault, SaysQuery, kinds_of, method_of, most_selectors}
use Rattle.request_meaning.specs.Renders.{IsRenderAsk}
use Rattle.request_meaning.specs.declared.ask.Ask.TheVariants as ask
use Rattle.request_meaning.specs.declared.ask.LabelAsk.{LabelAsk}
use Rattle.request_meaning.specs.declared.ask.LabelQuery.{LabelQuery}
use Rattle.request_meaning.specs.declared.form.PushForm.TheVariants as written
use Rattle.request_meaning.specs.declared.meaning.Meaning.{Meaning}
use Rattle.request_meaning.specs.declared.meaning.Meaning.TheVariants.{Write, Query}
use Rattle.request_meaning.specs.declared.method.LabelMethod.{LabelMethod}
use Rattle.request_meaning.specs.declared.method.LabelMethod.TheVariants.{Names, Values, Series}
use Rattle.request_meaning.specs.declared.refusal.Refusal.{Refusal}
use Rattle.request_meaning.specs.declared.refusal.Refusal.TheVariants.{WrongKind, Selector, Window}

-- ---- a request, by its route

-- what a query for labels asks
abbrev pub SaysLabels : Asked → LabelMethod → List ℕ → Meaning → Type 0
SaysLabels asked method tenant (Query (ask.Labels what)) =
    (what.part.tenant ≡ tenant) × (method_of what.query ≡ method) × IsLabelAsk method asked.body what
SaysLabels asked method tenant meaning = ⊥

-- what the parameters and the body say for the request's route
abbrev pub Says : Asked → Route → List ℕ → Meaning → Type 0
Says asked route.Ingest tenant (Write written.Ingest push) =
    (push.tenant ≡ tenant) × SaysProfiles (parameters_of asked.query) asked.body asked.moment push.profiles
Says asked route.Push tenant (Write written.Json push) = (push.tenant ≡ tenant) × SaysPushed asked.body asked.moment push.profiles
Says asked route.Render tenant (Query (ask.Render what)) = (what.part.tenant ≡ tenant) × IsRenderAsk (parameters_of asked.query) asked.moment what
Says asked route.LabelNames tenant meaning = SaysLabels asked Names tenant meaning
Says asked route.LabelValues tenant meaning = SaysLabels asked Values tenant meaning
Says asked route.Series tenant meaning = SaysLabels asked Series tenant meaning
Says asked one tenant meaning = ⊥

-- ---- the body of a query for labels

-- the query that an object says
abbrev pub SaysLabelAsk : LabelMethod → Data → List ℕ → LabelAsk → Type 0
SaysLabelAsk method value tenant asked =
    (texts : List (List ℕ)) × (asked.part.tenant ≡ tenant) × (method_of asked.query ≡ method) × SaysQuery method value asked.query
    × (texts_in (codes "matchers") value ≡ Some texts) × (length texts ≤ most_selectors) × AreSelectors texts asked.selectors.items
    × HasWindow value asked.part.from_ms asked.part.until_ms × (asked.part.from_ms ≤ asked.part.until_ms)

-- why these texts are no selectors
abbrev pub IsSelectorsRefused : List (List ℕ) → Refusal → Type 0
IsSelectorsRefused texts (Selector fault) = IsSelectorsFault texts fault
IsSelectorsRefused texts refusal = ⊥

-- the query of these parts
abbrev pub IsAskOf : List ℕ → LabelQuery → List (List ℕ) → ℕ → ℕ → LabelAsk → Type 0
IsAskOf tenant query texts from until asked =
    (asked.part.tenant ≡ tenant) × (asked.query ≡ query) × (asked.part.from_ms ≡ from) × (asked.part.until_ms ≡ until)
    × (length texts ≤ most_selectors) × AreSelectors texts asked.selectors.items × (from ≤ until)

abbrev pub IsAskOfRefused : List (List ℕ) → ℕ → ℕ → Refusal → Type 0
IsAskOfRefused texts from until Window = (selectors : List (List Matching)) × (length texts ≤ most_selectors) × AreSelectors texts selectors × (until < from)
IsAskOfRefused texts from until refusal = IsSelectorsRefused texts refusal

-- why an object says no query
abbrev pub IsAskRefused : LabelMethod → Data → Refusal → Type 0
IsAskRefused method value (WrongKind at) = position not (kinds_of method value) ≡ Some at
IsAskRefused method value (Selector fault) =
    (texts : List (List ℕ)) × (position not (kinds_of method value) ≡ None) × (texts_in (codes "matchers") value ≡ Some texts) × IsSelectorsFault texts fault
IsAskRefused method value Window =
    (texts : List (List ℕ)) × (selectors : List (List Matching)) × (from : ℕ) × (until : ℕ)
    × (position not (kinds_of method value) ≡ None) × (texts_in (codes "matchers") value ≡ Some texts)
    × (length texts ≤ most_selectors) × AreSelectors texts selectors × HasWindow value from until × (until < from)
IsAskRefused method value refusal = ⊥

-- the refusal of a fault of fields
abbrev pub refusal_of : FieldFault → Refusal
refusal_of (wrong_kind at) = WrongKind at
