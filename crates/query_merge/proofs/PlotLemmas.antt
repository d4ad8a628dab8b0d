-- Values over time: stored, counted, and listed.
use Rattle.std.proofs.Common.{◌≡◌, ◌∙◌, ◌+◌, ◌≤◌, ℕ, Bool, true, false, cond, List, [], ◌∷◌, ◌++◌, map, arith, Option, Some, None, Ordering, Less, Equal, Greater, refl, sym, ap, subst, append-nil, Result, Ok, Err}
use Rattle.std.specs.Prelude.{◌≢◌, ◌&&◌, IfOk, filter, nat_eq, option_map, unwrap_or}
use Rattle.std.specs.BTreeMap.{BTreeMap, insert_entry, is_at}
use Rattle.std.specs.List.{All, AllZip}
use Rattle.std.specs.List.Sorted.{IsStrictlySortedBy}
use Rattle.std.specs.Cmp.{nat_cmp_total, nat_eq_equiv, unsigned_Decides, unsigned_ties}
use Rattle.std.specs.Map.{keys_of, lookup, values_of}
use Rattle.std.specs.Ordering.{is_eq, match_ordering, nat_cmp}
use Rattle.std.proofs.lemmas.List.Elements.{All-map, filter-append}
use Rattle.std.proofs.lemmas.List.Sums.{sum_by-append, sum_by-cons}
use Rattle.std.proofs.lemmas.Map.Views.{All-values-insert_entry}
use Rattle.profile_model.proofs.EntryLemmas.{lookup-insert_entry}
use Rattle.profile_model.specs.LabelOrder.{labels_cmp, labels_eq, labels_equiv, labels_ties, labels_total}
use Rattle.profile_model.specs.LabelSets.{Label}
use Rattle.profile_model.specs.Pushes.{profiles_total}
use Rattle.profile_model.specs.Sums.{total_of}
use Rattle.profile_model.specs.declared.profile.Profile.{Profile}
use Rattle.query_merge.specs.Asked.{is_asked}
use Rattle.query_merge.specs.Gathering.{AreGroupsOf, AreWithin, GroupsView, IsCounted, points_in, points_of, value_of_point, with_group, with_value}
use Rattle.query_merge.specs.Grid.{point_of}
use Rattle.query_merge.specs.Plotted.{AreSeriesOf, Group, Plot, counts_at, group_of, listed_at, total_of_any, value_at, value_in}
use Rattle.query_merge.specs.declared.groups.Series.{Series}
use Rattle.query_merge.proofs.AskedLemmas.{labels_decide}

-- ---- stored groups, as they are listed

abbrev shown : List Label × BTreeMap ℕ ℕ → Group
shown entry = (entry.0, entry.1.entries)

pub keys_shown : (es : List (List Label × BTreeMap ℕ ℕ)) → keys_of (map shown es) ≡ keys_of es
keys_shown [] = refl
keys_shown (e ∷ es) = ap (λ (ks : List (List Label)). e.0 ∷ ks) (keys_shown es)

shown-match : (r : Ordering) (a b c : List (List Label × BTreeMap ℕ ℕ))
    → map shown (match_ordering r a b c) ≡ match_ordering r (map shown a) (map shown b) (map shown c)
shown-match Less a b c = refl
shown-match Equal a b c = refl
shown-match Greater a b c = refl

shown-insert : (es : List (List Label × BTreeMap ℕ ℕ)) (k : List Label) (points : BTreeMap ℕ ℕ)
    → map shown (insert_entry labels_cmp es k points) ≡ insert_entry labels_cmp (map shown es) k points.entries
shown-insert [] k points = refl
shown-insert (e ∷ es) k points =
    shown-match (labels_cmp k e.0) ((k, points) ∷ e ∷ es) ((e.0, points) ∷ es) (e ∷ insert_entry labels_cmp es k points)
    ∙ ap (λ (rest : List Group). match_ordering (labels_cmp k e.0) ((k, points.entries) ∷ shown e ∷ map shown es) ((e.0, points.entries) ∷ map shown es) (shown e ∷ rest))
    (shown-insert es k points)

shown-cond : (b : Bool) (points : BTreeMap ℕ ℕ) (found : Option (BTreeMap ℕ ℕ)) (seen : Option (List (ℕ × ℕ)))
    → seen ≡ option_map (λ (p : BTreeMap ℕ ℕ). p.entries) found
    → cond b (Some points.entries) seen ≡ option_map (λ (p : BTreeMap ℕ ℕ). p.entries) (cond b (Some points) found)
shown-cond true points found seen is = refl
shown-cond false points found seen is = is

shown-lookup : (test : List Label → Bool) (es : List (List Label × BTreeMap ℕ ℕ))
    → lookup test (map shown es) ≡ option_map (λ (p : BTreeMap ℕ ℕ). p.entries) (lookup test es)
shown-lookup test [] = refl
shown-lookup test (e ∷ es) = shown-cond (test e.0) e.1 (lookup test es) (lookup test (map shown es)) (shown-lookup test es)

found_points : (found : Option (BTreeMap ℕ ℕ)) (fresh held : BTreeMap ℕ ℕ) → held ≡ unwrap_or found fresh → fresh.entries ≡ []
    → held.entries ≡ points_in (option_map (λ (p : BTreeMap ℕ ℕ). p.entries) found)
found_points None fresh held is none = ap (λ (p : BTreeMap ℕ ℕ). p.entries) is ∙ none
found_points (Some points) fresh held is none = ap (λ (p : BTreeMap ℕ ℕ). p.entries) is

-- the points that are lent of a stored group, or of a new one
pub lent_points : (es : List (List Label × BTreeMap ℕ ℕ)) (labels : List Label) (fresh held : BTreeMap ℕ ℕ)
    → held ≡ unwrap_or (lookup (is_at (labels_cmp labels)) es) fresh → fresh.entries ≡ [] → held.entries ≡ points_of (map shown es) labels
lent_points es labels fresh held is none =
    found_points (lookup (is_at (labels_cmp labels)) es) fresh held is none ∙ ap points_in (sym (shown-lookup (is_at (labels_cmp labels)) es))

-- what is stored then, as it is listed
pub put_shown : (before after : List (List Label × BTreeMap ℕ ℕ)) (labels : List Label) (points : BTreeMap ℕ ℕ) (now : List (ℕ × ℕ))
    → after ≡ insert_entry labels_cmp before labels points → points.entries ≡ now
    → map shown after ≡ insert_entry labels_cmp (map shown before) labels now
put_shown before after labels points now is same =
    ap (map shown) is ∙ shown-insert before labels points ∙ ap (insert_entry labels_cmp (map shown before) labels) same

in_points : (found : Option (List (ℕ × ℕ))) (time : ℕ) → lookup (is_at (nat_cmp time)) (points_in found) ≡ value_in found time
in_points None time = refl
in_points (Some points) time = refl

-- a group's points hold what is listed
pub points_listed : (groups : List Group) (labels : List Label) (time : ℕ)
    → lookup (is_at (nat_cmp time)) (points_of groups labels) ≡ listed_at groups labels time
points_listed groups labels time = in_points (lookup (is_at (labels_cmp labels)) groups) time

same_points : (xs ys : List (ℕ × ℕ)) → AllZip (λ p q. (q.0 ≡ p.0) × (q.1 ≡ p.1)) xs ys → ys ≡ xs
same_points [] [] same = refl
same_points [] (y ∷ ys) same = absurd same
same_points (x ∷ xs) [] same = absurd same
same_points (x ∷ xs) (y ∷ ys) same = λ i. (same.0.0 i, same.0.1 i) ∷ same_points xs ys same.1 i

pub same_groups : (xs ys : List (List Label × BTreeMap ℕ ℕ))
    → AllZip (λ p q. (q.0 ≡ p.0) × AllZip (λ a b. (b.0 ≡ a.0) × (b.1 ≡ a.1)) p.1.entries q.1.entries) xs ys → map shown ys ≡ map shown xs
same_groups [] [] same = refl
same_groups [] (y ∷ ys) same = absurd same
same_groups (x ∷ xs) [] same = absurd same
same_groups (x ∷ xs) (y ∷ ys) same = λ i. (same.0.0 i, same_points x.1.entries y.1.entries same.0.1 i) ∷ same_groups xs ys same.1 i

-- ---- a value counted

nat_same : (x y : ℕ) → is_eq (nat_cmp x y) ≡ true → x ≡ y
nat_same x y is = (unsigned_Decides x y).0 (unsigned_ties x y ∙ is)

listed_put : (old : List Group) (labels : List Label) (now : List (ℕ × ℕ)) (q : List Label) (t : ℕ) (here : Bool)
    → is_eq (labels_cmp q labels) ≡ here
    → listed_at (insert_entry labels_cmp old labels now) q t ≡ cond here (lookup (is_at (nat_cmp t)) now) (listed_at old q t)
listed_put old labels now q t here is =
    ap (λ (found : Option (List (ℕ × ℕ))). value_in found t) (lookup-insert_entry labels_total old labels now q ∙ ap (λ (b : Bool). cond b (Some now) (lookup (is_at (labels_cmp q)) old)) is)
    ∙ by here
  where
    by : (b : Bool) → value_in (cond b (Some now) (lookup (is_at (labels_cmp q)) old)) t ≡ cond b (lookup (is_at (nat_cmp t)) now) (listed_at old q t)
    by true = refl
    by false = refl

here_by : (groups : List Group) (labels q : List Label) (time t value : ℕ) (b : Bool) → is_eq (nat_cmp t time) ≡ b → q ≡ labels
    → cond b (Some (value_of_point (points_of groups labels) time + value)) (lookup (is_at (nat_cmp t)) (points_of groups labels))
    ≡ cond b (Some (unwrap_or (listed_at groups q t) 0 + value)) (listed_at groups q t)
here_by groups labels q time t value true at same =
    ap (λ (found : Option ℕ). Some (unwrap_or found 0 + value))
    (points_listed groups labels time ∙ (λ i. listed_at groups (sym same i) (sym (nat_same t time at) i)))
here_by groups labels q time t value false at same = points_listed groups labels t ∙ (λ i. listed_at groups (sym same i) t)

-- the points of a group with one more value are listed, and all else as before
put_exact : (groups : List Group) (labels : List Label) (time value : ℕ) (q : List Label) (t : ℕ)
    → listed_at (with_group groups labels time value) q t
    ≡ cond (is_eq (labels_cmp q labels) && is_eq (nat_cmp t time)) (Some (unwrap_or (listed_at groups q t) 0 + value)) (listed_at groups q t)
put_exact groups labels time value q t = by (is_eq (labels_cmp q labels)) refl
  where
    by : (b : Bool) → is_eq (labels_cmp q labels) ≡ b
        → listed_at (with_group groups labels time value) q t
        ≡ cond (b && is_eq (nat_cmp t time)) (Some (unwrap_or (listed_at groups q t) 0 + value)) (listed_at groups q t)
    by true same =
        listed_put groups labels (with_value (points_of groups labels) time value) q t true same
        ∙ lookup-insert_entry nat_cmp_total (points_of groups labels) time (value_of_point (points_of groups labels) time + value) t
        ∙ here_by groups labels q time t value (is_eq (nat_cmp t time)) refl ((labels_decide q labels).0 (labels_ties q labels ∙ same))
    by false same = listed_put groups labels (with_value (points_of groups labels) time value) q t false same

some_insert : (r : Ordering) (es : List (ℕ × ℕ)) (e : ℕ × ℕ) (time value : ℕ) (rest : List (ℕ × ℕ))
    → match_ordering r ((time, value) ∷ e ∷ es) ((e.0, value) ∷ es) (e ∷ rest) ≢ []
some_insert Less es e time value rest none = cc
some_insert Equal es e time value rest none = cc
some_insert Greater es e time value rest none = cc

inserted_some : (es : List (ℕ × ℕ)) (time value : ℕ) → insert_entry nat_cmp es time value ≢ []
inserted_some [] time value none = cc
inserted_some (e ∷ es) time value none = some_insert (nat_cmp time e.0) es e time value (insert_entry nat_cmp es time value) none

pub counted : (old new : GroupsView) (labels : List Label) (time value : ℕ) → new.groups ≡ with_group old.groups labels time value
    → new.total ≡ old.total + value → IsCounted old labels time value new
counted old new labels time value is sum = record {
  some = λ all. subst (λ (groups : List Group). All (λ points. points ≢ []) (values_of groups)) (sym is)
      (All-values-insert_entry labels_cmp labels (with_value (points_of old.groups labels) time value) (λ points. points ≢ []) old.groups all
      (inserted_some (points_of old.groups labels) time (value_of_point (points_of old.groups labels) time + value)));
  exact = λ q t. ap (λ (groups : List Group). listed_at groups q t) is ∙ put_exact old.groups labels time value q t;
  total = sum;
}

-- ---- what the profiles come to

one_more : (counted : List Profile) (profile : Profile)
    → total_of_any (counted ++ profile ∷ []) ≡ Some (unwrap_or (total_of_any counted) 0 + total_of profile.values)
one_more [] profile = ap (λ (n : ℕ). Some n) (let one = sum_by-cons (λ (p : Profile). total_of p.values) profile [] in omega arith)
one_more (first ∷ more) profile =
    ap (λ (n : ℕ). Some n) (sum_by-append (λ (p : Profile). total_of p.values) (first ∷ more) (profile ∷ [])
    ∙ (let one = sum_by-cons (λ (p : Profile). total_of p.values) profile [] in omega arith))

pub value_more : (plot : Plot) (profiles : List Profile) (profile : Profile) (q : List Label) (t : ℕ)
    → value_at plot (profiles ++ profile ∷ []) q t
    ≡ cond (counts_at plot q t profile) (Some (unwrap_or (value_at plot profiles q t) 0 + total_of profile.values)) (value_at plot profiles q t)
value_more plot profiles profile q t =
    ap total_of_any (filter-append (counts_at plot q t) profiles (profile ∷ [])) ∙ by (counts_at plot q t profile)
  where
    by : (b : Bool) → total_of_any (filter (counts_at plot q t) profiles ++ cond b (profile ∷ []) [])
        ≡ cond b (Some (unwrap_or (value_at plot profiles q t) 0 + total_of profile.values)) (value_at plot profiles q t)
    by true = one_more (filter (counts_at plot q t) profiles) profile
    by false = ap total_of_any (append-nil (filter (counts_at plot q t) profiles))

more_total : (profiles : List Profile) (profile : Profile) → profiles_total (profiles ++ profile ∷ []) ≡ profiles_total profiles + total_of profile.values
more_total profiles profile =
    sum_by-append (λ (p : Profile). total_of p.values) profiles (profile ∷ [])
    ∙ (let one = sum_by-cons (λ (p : Profile). total_of p.values) profile [] in omega arith)

-- a profile that isn't asked for changes nothing
pub not_asked : (plot : Plot) (profiles : List Profile) (profile : Profile) (held : GroupsView) → is_asked plot.query profile ≡ false
    → AreGroupsOf plot profiles held → AreGroupsOf plot (profiles ++ profile ∷ []) held
not_asked plot profiles profile held none are = record {
  some = are.some;
  exact = λ q t. are.exact q t
      ∙ sym (value_more plot profiles profile q t
      ∙ ap (λ (b : Bool). cond (b && (labels_eq (group_of plot.names profile.labels) q && nat_eq (point_of plot.start plot.step profile.time_ms) t))
      (Some (unwrap_or (value_at plot profiles q t) 0 + total_of profile.values)) (value_at plot profiles q t)) none);
  total = let more = more_total profiles profile in let was = are.total in omega arith;
}

-- one that is asked for is counted at its place
pub asked : (plot : Plot) (profiles : List Profile) (profile : Profile) (old new : GroupsView) (labels : List Label) (time value : ℕ)
    → is_asked plot.query profile ≡ true → labels ≡ group_of plot.names profile.labels → time ≡ point_of plot.start plot.step profile.time_ms
    → value ≡ total_of profile.values → IsCounted old labels time value new
    → AreGroupsOf plot profiles old → AreGroupsOf plot (profiles ++ profile ∷ []) new
asked plot profiles profile old new labels time value wanted group point worth did are = record {
  some = did.some are.some;
  exact = λ q t. did.exact q t
      ∙ (λ i. cond (tests q t i) (Some (unwrap_or (are.exact q t i) 0 + worth i)) (are.exact q t i))
      ∙ sym (value_more plot profiles profile q t);
  total = let more = more_total profiles profile in let was = are.total in let now = did.total in omega arith;
}
  where
    tests : (q : List Label) (t : ℕ) → (is_eq (labels_cmp q labels) && is_eq (nat_cmp t time)) ≡ counts_at plot q t profile
    tests q t =
        (λ i. turned q i && turned_time t i)
        ∙ (λ i. labels_eq (group i) q && nat_eq (point i) t)
        ∙ ap (λ (b : Bool). b && (labels_eq (group_of plot.names profile.labels) q && nat_eq (point_of plot.start plot.step profile.time_ms) t)) (sym wanted)
      where
        turned : (q : List Label) → is_eq (labels_cmp q labels) ≡ labels_eq labels q
        turned q = sym (labels_ties q labels) ∙ labels_equiv.symm q labels

        turned_time : (t : ℕ) → is_eq (nat_cmp t time) ≡ nat_eq time t
        turned_time t = sym (unsigned_ties t time) ∙ nat_eq_equiv.symm t time

-- no value is above the total, with one value more
within_by : (b : Bool) (found : Option ℕ) (value total : ℕ) → unwrap_or found 0 ≤ total
    → unwrap_or (cond b (Some (unwrap_or found 0 + value)) found) 0 ≤ total + value
within_by true found value total below = omega arith
within_by false found value total below = omega arith

pub still_within : (old new : GroupsView) (labels : List Label) (time value : ℕ) → IsCounted old labels time value new → AreWithin old → AreWithin new
still_within old new labels time value did within q t =
    let below = within_by (is_eq (labels_cmp q labels) && is_eq (nat_cmp t time)) (listed_at old.groups q t) value old.total (within q t) in
    let sum = did.total in
    subst (λ (n : ℕ). n ≤ new.total) (ap (λ (found : Option ℕ). unwrap_or found 0) (sym (did.exact q t))) (omega arith)

-- ---- listed

abbrev pub listed_one : Series → Group
listed_one one = (one.labels, one.points.items)

values_listed : (series : List Series) → values_of (map listed_one series) ≡ map (λ (one : Series). one.points.items) series
values_listed [] = refl
values_listed (one ∷ series) = ap (λ (vs : List (List (ℕ × ℕ))). one.points.items ∷ vs) (values_listed series)

pub series_are : (plot : Plot) (profiles : List Profile) (held : GroupsView) (series : List Series) → AreGroupsOf plot profiles held
    → map listed_one series ≡ held.groups → IsStrictlySortedBy labels_cmp (keys_of held.groups)
    → All (λ one. IsStrictlySortedBy nat_cmp (keys_of one.points.items)) series → AreSeriesOf plot profiles (map listed_one series)
series_are plot profiles held series are same ordered points =
    let some : All (λ points. points ≢ []) (values_of (map listed_one series)) =
    subst (λ (groups : List Group). All (λ points. points ≢ []) (values_of groups)) (sym same) are.some in
    let sorted : All (λ points. IsStrictlySortedBy nat_cmp (keys_of points)) (values_of (map listed_one series)) =
    subst (λ (values : List (List (ℕ × ℕ))). All (λ points. IsStrictlySortedBy nat_cmp (keys_of points)) values) (sym (values_listed series))
    (All-map (λ (points : List (ℕ × ℕ)). IsStrictlySortedBy nat_cmp (keys_of points)) (λ (one : Series). one.points.items) series points) in
    record {
      ascending = subst (λ (groups : List Group). IsStrictlySortedBy labels_cmp (keys_of groups)) (sym same) ordered;
      each = λ k d short. record { some = some k d short; ascending = sorted k d short };
      exact = λ q t. ap (λ (groups : List Group). listed_at groups q t) same ∙ are.exact q t;
    }

pub all_series : {V E : Type 0} (items : V → List Series) (plot : Plot) (profiles : List Profile) (held : GroupsView) (series : Result V E)
    → AreGroupsOf plot profiles held
    → IfOk series (λ s. map listed_one (items s) ≡ held.groups) → IfOk series (λ _. IsStrictlySortedBy labels_cmp (keys_of held.groups))
    → IfOk series (λ s. All (λ one. IsStrictlySortedBy nat_cmp (keys_of one.points.items)) (items s))
    → IfOk series (λ s. AreSeriesOf plot profiles (map listed_one (items s)))
all_series items plot profiles held (Ok s) are same ordered points = series_are plot profiles held (items s) are same ordered points
all_series items plot profiles held (Err e) are same ordered points = tt
