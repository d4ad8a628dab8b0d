-- What of a request is looked at before its parameters and its body: its route, its tenant and its forms.
use Rattle.std.specs.Prelude.{◌||◌, ℕ, Bool, true, false, not, List, map, nat_eq, codes, unwrap_or, Option, Some, None, if◌then◌else◌}
use Rattle.std.specs.Char.{to_ascii_lowercase}
use Rattle.std.specs.Cmp.Lexicographic.{pointwise}
use Rattle.http_session.specs.Asked.{Asked}
use Rattle.wire_forms.specs.Digits.{number_of}
use Rattle.wire_forms.specs.Gzip.{begins_as_gzip}
use Rattle.routes.specs.Paths.{found_at}
use Rattle.routes.specs.declared.route.Route.{Route}
use Rattle.routes.specs.declared.route.Route.TheVariants as route
use Rattle.routes.specs.declared.route.Found.{Found}
use Rattle.routes.specs.declared.route.Found.TheVariants as found
use Rattle.request_meaning.specs.Facts.{Facts}
use Rattle.request_meaning.specs.declared.method.LabelMethod.{LabelMethod}
use Rattle.request_meaning.specs.declared.method.LabelMethod.TheVariants.{Names, Values, Series}

abbrev pub is_text : List ℕ → List ℕ → Bool
is_text bytes text = pointwise nat_eq bytes text

-- the routes that are built
abbrev pub is_built : Route → Bool
is_built route.Ingest = true
is_built route.Push = true
is_built route.Render = true
is_built route.LabelNames = true
is_built route.LabelValues = true
is_built route.Series = true
is_built route.RenderDiff = false
is_built route.Diff = false
is_built route.ProfileStats = false
is_built route.ProfileTypes = false
is_built route.MergeProfile = false
is_built route.MergeStacktraces = false
is_built route.SelectSeries = false

-- the route of each method that lists labels
abbrev pub route_of : LabelMethod → Route
route_of Names = route.LabelNames
route_of Values = route.LabelValues
route_of Series = route.Series

abbrev pub built_route : Found → Option Route
built_route (found.Route route) = if is_built route then Some route else None
built_route (found.WrongMethod method) = None
built_route found.NoRoute = None

-- the route of a request, if it is built
abbrev pub route_at : Asked → Option Route
route_at asked = built_route (found_at asked.method asked.path)

-- the name of the tenant: the header's, or the one tenant's of a run that has only one
abbrev pub tenant_of : Facts → Asked → Option (List ℕ)
tenant_of facts asked = if facts.single then Some (codes "anonymous") else asked.tenant

-- a coding other than identity, which is compared without case
abbrev pub is_coded : Option (List ℕ) → Bool
is_coded None = false
is_coded (Some coding) = not (is_text (map to_ascii_lowercase coding) (codes "identity"))

-- a body that isn't read as it is: coded, or beginning as gzip does (RFC 1952)
abbrev pub is_encoded : Asked → Bool
is_encoded asked = is_coded asked.encoding || begins_as_gzip asked.body

-- the number that a header X-Pyro-Front says: 1 to 19 digits, 0 where there is no header, and none where it is another text
abbrev pub front_in : Option (List ℕ) → Option ℕ
front_in None = Some 0
front_in (Some text) = number_of 19 text

-- how many pushes its tenant must have
abbrev pub least_front : Asked → ℕ
least_front asked = unwrap_or (front_in asked.front) 0
