-- Values over time, in groups of profiles with the same labels.
use Rattle.std.specs.Prelude.{◌≡◌, ◌≢◌, ◌&&◌, ℕ, Bool, List, [], ◌∷◌, Option, Some, None, filter, nat_eq}
use Rattle.std.specs.BTreeMap.{is_at}
use Rattle.std.specs.Cmp.Lexicographic.{pointwise}
use Rattle.std.specs.List.{All, list_any}
use Rattle.std.specs.List.Sorted.{IsStrictlySortedBy}
use Rattle.std.specs.Map.{keys_of, lookup, values_of}
use Rattle.std.specs.Ordering.{nat_cmp}
use Rattle.profile_model.specs.LabelOrder.{labels_cmp, labels_eq}
use Rattle.profile_model.specs.LabelSets.{Label}
use Rattle.profile_model.specs.Pushes.{profiles_total}
use Rattle.profile_model.specs.Series.{own_labels}
use Rattle.profile_model.specs.declared.profile.Profile.{Profile}
use Rattle.selector.specs.declared.query.Query.{Query}
use Rattle.query_merge.specs.Asked.{is_asked}
use Rattle.query_merge.specs.Grid.{point_of}

-- a query, the points in time, and the names of the labels by which profiles are grouped
pub record Plot : Type 0 where
  pub query : Query
  pub start : ℕ
  pub step : ℕ
  pub names : List (List ℕ)

-- the labels that have one of the names, without those that stand for a profile's type
abbrev pub group_of : List (List ℕ) → List Label → List Label
group_of names labels = own_labels (filter (λ label. list_any (pointwise nat_eq label.0) names) labels)

-- the profile is asked for, is in the group with these labels, and counts at this point
abbrev pub counts_at : Plot → List Label → ℕ → Profile → Bool
counts_at plot labels time profile =
    is_asked plot.query profile && (labels_eq (group_of plot.names profile.labels) labels && nat_eq (point_of plot.start plot.step profile.time_ms) time)

-- all values of all profiles, where there is any profile
abbrev pub total_of_any : List Profile → Option ℕ
total_of_any [] = None
total_of_any (first ∷ more) = Some (profiles_total (first ∷ more))

-- what a group has at a point: none where none of its profiles counts there
abbrev pub value_at : Plot → List Profile → List Label → ℕ → Option ℕ
value_at plot profiles labels time = total_of_any (filter (counts_at plot labels time) profiles)

-- ---- listed

-- a group's labels, and its points with their values
abbrev pub Group : Type 0
Group = List Label × List (ℕ × ℕ)

abbrev pub value_in : Option (List (ℕ × ℕ)) → ℕ → Option ℕ
value_in None time = None
value_in (Some points) time = lookup (is_at (nat_cmp time)) points

-- the value that is listed for a group and a point
abbrev pub listed_at : List Group → List Label → ℕ → Option ℕ
listed_at groups labels time = value_in (lookup (is_at (labels_cmp labels)) groups) time

-- at least one point; points ascend
pub record ArePoints (points : List (ℕ × ℕ)) : Type 0 where
  pub some : points ≢ []
  pub ascending : IsStrictlySortedBy nat_cmp (keys_of points)

-- groups ascend by their labels, and each has at every point just what its profiles come to there
pub record AreSeriesOf (plot : Plot) (profiles : List Profile) (groups : List Group) : Type 0 where
  pub ascending : IsStrictlySortedBy labels_cmp (keys_of groups)
  pub each : All ArePoints (values_of groups)
  pub exact : (labels : List Label) (time : ℕ) → listed_at groups labels time ≡ value_at plot profiles labels time
