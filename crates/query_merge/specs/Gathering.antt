-- Groups and their points while they are gathered.
use Rattle.std.specs.Prelude.{◌≡◌, ◌≢◌, ◌&&◌, ℕ, ◌+◌, ◌≤◌, List, [], Option, Some, None, if◌then◌else◌, map, unwrap_or, true, false}
use Rattle.std.specs.BTreeMap.{BTreeMap, insert_entry, is_at}
use Rattle.std.specs.List.{All}
use Rattle.std.specs.Map.{lookup, values_of}
use Rattle.std.specs.Ordering.{is_eq, nat_cmp}
use Rattle.profile_model.specs.LabelOrder.{labels_cmp}
use Rattle.profile_model.specs.LabelSets.{Label}
use Rattle.profile_model.specs.Pushes.{profiles_total}
use Rattle.profile_model.specs.declared.profile.Profile.{Profile}
use Rattle.query_merge.specs.Asked.{is_asked}
use Rattle.query_merge.specs.Grid.{point_of}
use Rattle.query_merge.specs.Plotted.{Group, Plot, group_of, listed_at, value_at}

-- groups, and all their values together
pub record GroupsView : Type 0 where
  pub groups : List Group
  pub total : ℕ

-- stored groups, as they are listed
abbrev pub groups_in : BTreeMap (List Label) (BTreeMap ℕ ℕ) → List Group
groups_in stored = map (λ entry. (entry.0, entry.1.entries)) stored.entries

abbrev pub points_in : Option (List (ℕ × ℕ)) → List (ℕ × ℕ)
points_in None = []
points_in (Some points) = points

-- the points of a group, none where there is no such group
abbrev pub points_of : List Group → List Label → List (ℕ × ℕ)
points_of groups labels = points_in (lookup (is_at (labels_cmp labels)) groups)

-- the value of a point, 0 where it isn't there
abbrev pub value_of_point : List (ℕ × ℕ) → ℕ → ℕ
value_of_point points time = unwrap_or (lookup (is_at (nat_cmp time)) points) 0

-- points with a value added to that of a point
abbrev pub with_value : List (ℕ × ℕ) → ℕ → ℕ → List (ℕ × ℕ)
with_value points time value = insert_entry nat_cmp points time (value_of_point points time + value)

-- groups with a value added to that of a group's point
abbrev pub with_group : List Group → List Label → ℕ → ℕ → List Group
with_group groups labels time value = insert_entry labels_cmp groups labels (with_value (points_of groups labels) time value)

-- what is gathered of these profiles
pub record AreGroupsOf (plot : Plot) (profiles : List Profile) (held : GroupsView) : Type 0 where
  pub some : All (λ points. points ≢ []) (values_of held.groups)
  pub exact : (labels : List Label) (time : ℕ) → listed_at held.groups labels time ≡ value_at plot profiles labels time
  pub total : held.total ≤ profiles_total profiles

-- no value is above the total
abbrev pub AreWithin : GroupsView → Type 0
AreWithin held = (labels : List Label) (time : ℕ) → unwrap_or (listed_at held.groups labels time) 0 ≤ held.total

-- the value is added to what the group has at the point
pub record IsCounted (old : GroupsView) (labels : List Label) (time value : ℕ) (new : GroupsView) : Type 0 where
  pub some : All (λ points. points ≢ []) (values_of old.groups) → All (λ points. points ≢ []) (values_of new.groups)
  pub exact : (q : List Label) (t : ℕ) → listed_at new.groups q t
      ≡ (if is_eq (labels_cmp q labels) && is_eq (nat_cmp t time) then Some (unwrap_or (listed_at old.groups q t) 0 + value) else listed_at old.groups q t)
  pub total : new.total ≡ old.total + value

-- where a profile counts, if it is asked for
abbrev pub IsPlace : Plot → Profile → Option (List Label × ℕ) → Type 0
IsPlace plot profile None = is_asked plot.query profile ≡ false
IsPlace plot profile (Some place) =
    (is_asked plot.query profile ≡ true) × (place.0 ≡ group_of plot.names profile.labels) × (place.1 ≡ point_of plot.start plot.step profile.time_ms)

-- a points' plot, and what it gathered
pub record PointsView : Type 0 where
  pub plot : Plot
  pub held : GroupsView

-- what was gathered is that of these profiles
abbrev pub ArePointsOf : PointsView → List Profile → Type 0
ArePointsOf points profiles = AreGroupsOf points.plot profiles points.held
