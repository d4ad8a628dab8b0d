-- The routes, and what a method and a path name.
use Rattle.std.specs.Prelude.{◌≡◌, ℕ, Bool, true, false, List, [], ◌∷◌, Option, Some, None, codes, option_map, if◌then◌else◌, nat_eq}
use Rattle.std.specs.Cmp.Lexicographic.{pointwise}
use Rattle.http_session.specs.declared.method.Method.{Method}
use Rattle.http_session.specs.declared.method.Method.TheVariants.{Get, Post, Other}
use Rattle.http_session.specs.declared.reply.Allow.{Allow}
use Rattle.http_session.specs.declared.reply.Allow.TheVariants as allow
use Rattle.matchit.specs.Rows.{RowsOf}
use Rattle.matchit.specs.Router.{RouteOf}
use Rattle.matchit.specs.Seek.{first}
use Rattle.routes.specs.declared.route.Route.{Route}
use Rattle.routes.specs.declared.route.Route.TheVariants.{Ingest, Push, Render, RenderDiff, Diff, ProfileStats, LabelNames, LabelValues, ProfileTypes, MergeProfile, MergeStacktraces, SelectSeries, Series}
use Rattle.routes.specs.declared.route.Found.{Found}
use Rattle.routes.specs.declared.route.Found.TheVariants as found

-- each route's path
abbrev pub table : List (List ℕ × Route)
table =
    (codes "/ingest", Ingest)
    ∷ (codes "/push.v1.PusherService/Push", Push)
    ∷ (codes "/pyroscope/render-diff", RenderDiff)
    ∷ (codes "/pyroscope/render", Render)
    ∷ (codes "/querier.v1.QuerierService/Diff", Diff)
    ∷ (codes "/querier.v1.QuerierService/GetProfileStats", ProfileStats)
    ∷ (codes "/querier.v1.QuerierService/LabelNames", LabelNames)
    ∷ (codes "/querier.v1.QuerierService/LabelValues", LabelValues)
    ∷ (codes "/querier.v1.QuerierService/ProfileTypes", ProfileTypes)
    ∷ (codes "/querier.v1.QuerierService/SelectMergeProfile", MergeProfile)
    ∷ (codes "/querier.v1.QuerierService/SelectMergeStacktraces", MergeStacktraces)
    ∷ (codes "/querier.v1.QuerierService/SelectSeries", SelectSeries)
    ∷ (codes "/querier.v1.QuerierService/Series", Series)
    ∷ []

-- the one method of a route
abbrev pub method_of : Route → Allow
method_of Ingest = allow.Post
method_of Push = allow.Post
method_of Render = allow.Get
method_of RenderDiff = allow.Get
method_of Diff = allow.Post
method_of ProfileStats = allow.Post
method_of LabelNames = allow.Post
method_of LabelValues = allow.Post
method_of ProfileTypes = allow.Post
method_of MergeProfile = allow.Post
method_of MergeStacktraces = allow.Post
method_of SelectSeries = allow.Post
method_of Series = allow.Post

abbrev pub takes : Allow → Method → Bool
takes allow.Get Get = true
takes allow.Get Post = false
takes allow.Get Other = false
takes allow.Post Get = false
takes allow.Post Post = true
takes allow.Post Other = false

-- the route that has exactly this path
abbrev pub route_in : List (List ℕ × Route) → List ℕ → Option Route
route_in [] path = None
route_in (row ∷ rows) path = if pointwise nat_eq row.0 path then Some row.1 else route_in rows path

-- what a method and the route of a path name
abbrev pub found_for : Method → Option Route → Found
found_for method None = found.NoRoute
found_for method (Some route) = if takes (method_of route) method then found.Route route else found.WrongMethod (method_of route)

abbrev pub found_at : Method → List ℕ → Found
found_at method path = found_for method (route_in table path)

-- the router finds exactly the routes of the table
abbrev pub IsRouter : RowsOf (RouteOf Route) → Type 0
IsRouter rows = (path : List ℕ) → option_map (λ row. row.value) (first rows path) ≡ route_in table path
