-- What holds of all rows, in whatever order they come.
use Rattle.std.specs.Prelude.{◌≡◌, ℕ, ◌+◌, ◌*◌, ◌<◌, ◌≤◌, ◌++◌, List, [], ◌∷◌, Ok, Option, fold, length}
use Rattle.std.specs.List.Sorted.{IsPermutation}
use Rattle.label_queries.specs.Labels.{label_sets_of}
use Rattle.profile_model.specs.Limits.{total_bound}
use Rattle.profile_model.specs.Pushes.{profiles_total}
use Rattle.profile_model.specs.TypeTexts.{type_text}
use Rattle.profile_model.specs.declared.kind.ProfileType.{ProfileType}
use Rattle.profile_model.specs.declared.part_ask.PartAsk.{PartAsk}
use Rattle.profile_model.specs.declared.profile.Profile.{Profile}
use Rattle.profile_model.specs.declared.push.Push.{Push}
use Rattle.push_history.specs.History.{HasBoundedTotals, front_of, rows_of}
use Rattle.segment_file.specs.Parts.{PartView, part_of}
use Rattle.segment_file.specs.declared.part.Row.{Row}
use Rattle.selector.specs.Matching.{Matching}
use Rattle.selector.specs.Read.{IsReadQuery}
use Rattle.selector.specs.declared.query.Query.{Query}
use Rattle.query_merge.specs.Asked.{stacks_of}
use Rattle.query_merge.specs.Grid.{point_of, width_of}
use Rattle.query_merge.specs.Plotted.{AreSeriesOf, Group, Plot}
use Rattle.query_merge.specs.Rows.{profiles_of, profiles_of_parts}
use Rattle.query_merge.specs.Spans.{IsSpanOf}
use Rattle.query_merge.specs.TypeLists.{types_of}

-- parts in any order have the same profiles, in some order
abbrev pub PartsInAnyOrder : Type 0
PartsInAnyOrder =
    (parts others : List PartView) → IsPermutation parts others → IsPermutation (profiles_of_parts parts) (profiles_of_parts others)

-- rows in any order have the same profiles, in some order
abbrev pub RowsInAnyOrder : Type 0
RowsInAnyOrder = (rows others : List Row) → IsPermutation rows others → IsPermutation (profiles_of rows) (profiles_of others)

abbrev pub SpanInAnyOrder : Type 0
SpanInAnyOrder = (profiles others : List Profile) (span : Option (ℕ × ℕ)) → IsPermutation profiles others → IsSpanOf profiles span → IsSpanOf others span

abbrev pub TypesInAnyOrder : Type 0
TypesInAnyOrder = (profiles others : List Profile) → IsPermutation profiles others → types_of profiles ≡ types_of others

abbrev pub SetsInAnyOrder : Type 0
SetsInAnyOrder =
    (selectors : List (List Matching)) (profiles others : List Profile) → IsPermutation profiles others
    → label_sets_of selectors profiles ≡ label_sets_of selectors others

abbrev pub StacksInAnyOrder : Type 0
StacksInAnyOrder = (query : Query) (profiles others : List Profile) → IsPermutation profiles others → stacks_of query profiles ≡ stacks_of query others

abbrev pub SeriesInAnyOrder : Type 0
SeriesInAnyOrder =
    (plot : Plot) (profiles others : List Profile) (groups : List Group) → IsPermutation profiles others
    → AreSeriesOf plot profiles groups → AreSeriesOf plot others groups

-- ---- totals

-- what an ask finds in a history from push number `from` on, part by part: each begins where the one before it ended
abbrev pub ArePartsFrom : List Push → PartAsk → ℕ → List PartView → Type 0
ArePartsFrom history ask from [] = Unit {0}
ArePartsFrom history ask from (part ∷ parts) =
    (part ≡ part_of 0 history from part.until ask) × (from ≤ part.until) × ArePartsFrom history ask part.until parts

-- all values of the parts so far and of the next stay below the bound
abbrev pub PartsStayBounded : Type 0
PartsStayBounded =
    (history : List Push) (ask : PartAsk) (parts : List PartView) (next : PartView) → HasBoundedTotals history
    → ArePartsFrom history ask 0 (parts ++ next ∷ []) → profiles_total (profiles_of_parts parts) + profiles_total (profiles_of next.rows) < total_bound

-- ---- all parts

-- where the last of the parts ends
abbrev pub end_of : ℕ → List PartView → ℕ
end_of from parts = fold (λ end part. part.until) from parts

-- parts up to the history's end have the tenant's rows in the ask's window, all and in order
abbrev pub PartsAreRows : Type 0
PartsAreRows =
    (history : List Push) (ask : PartAsk) (parts : List PartView) → ArePartsFrom history ask 0 parts → end_of 0 parts ≡ length history
    → profiles_of_parts parts ≡ rows_of history ask.tenant (front_of history ask.tenant) ask.from_ms ask.until_ms

-- ---- answers are told once

-- profiles have one span
abbrev pub OneSpan : Type 0
OneSpan = (profiles : List Profile) (one other : Option (ℕ × ℕ)) → IsSpanOf profiles one → IsSpanOf profiles other → one ≡ other

-- profiles have one list of series
abbrev pub OneSeries : Type 0
OneSeries = (plot : Plot) (profiles : List Profile) (one other : List Group) → AreSeriesOf plot profiles one → AreSeriesOf plot profiles other → one ≡ other

-- types with one text are one type
abbrev pub OneType : Type 0
OneType = (one other : ProfileType) → type_text one ≡ type_text other → one ≡ other

-- ---- points and queries

-- one of the points, not before the time, and none of the points that aren't before it is earlier
pub record IsFirstPoint (start width time point : ℕ) : Type 0 where
  pub index : ℕ
  pub at : point ≡ start + index * width
  pub not_before : time ≤ point
  pub first : (i : ℕ) → time ≤ start + i * width → point ≤ start + i * width

abbrev pub PointsAreFirst : Type 0
PointsAreFirst = (start step time : ℕ) → 0 < step → IsFirstPoint start (width_of step) time (point_of start step time)

-- what is read of one text is one query
abbrev pub OneQuery : Type 0
OneQuery = (text : List ℕ) (one other : Query) → IsReadQuery text (Ok one) → IsReadQuery text (Ok other) → one ≡ other
