-- What the query methods that list labels answer over some profiles: their label sets, and the names, the
-- values and the series in these.
use Rattle.std.specs.Prelude.{ℕ, Bool, true, List, [], ◌∷◌, map, filter, filter_map, flat_map, nat_eq}
use Rattle.std.specs.List.{list_any}
use Rattle.std.specs.Map.{keys_of}
use Rattle.std.specs.Cmp.Lexicographic.{pointwise}
use Rattle.profile_model.specs.LabelOrder.{labels_cmp}
use Rattle.profile_model.specs.LabelSets.{Label, label_of}
use Rattle.profile_model.specs.Stacks.{name_cmp}
use Rattle.profile_model.specs.declared.profile.Profile.{Profile}
use Rattle.selector.specs.Matching.{Matching, matches, seen_labels}
use Rattle.label_queries.specs.Ordered.{ascending}

-- The profile's labels with `__name__` and `__profile_type__`, the name and the text of its type, in place of
-- any of its own with these names.
abbrev pub shown_labels : Profile → List Label
shown_labels profile = seen_labels profile.labels profile.kind

-- any of the selectors matches the profile; where there are none, every profile is asked for
abbrev pub is_asked : List (List Matching) → Profile → Bool
is_asked [] profile = true
is_asked (first ∷ more) profile = list_any (λ selector. matches selector profile.labels profile.kind) (first ∷ more)

-- the label sets of the profiles that are asked for
abbrev pub label_sets_of : List (List Matching) → List Profile → List (List Label)
label_sets_of selectors profiles = ascending labels_cmp (map shown_labels (filter (is_asked selectors) profiles))

-- the names of labels that any set has
abbrev pub label_names_of : List (List Label) → List (List ℕ)
label_names_of sets = ascending name_cmp (flat_map keys_of sets)

-- the values of a label, in the sets that have it
abbrev pub label_values_of : List ℕ → List (List Label) → List (List ℕ)
label_values_of name sets = ascending name_cmp (filter_map (λ set. label_of set name) sets)

-- the name is one of these, or there are none
abbrev pub is_kept : List (List ℕ) → List ℕ → Bool
is_kept [] name = true
is_kept (first ∷ more) name = list_any (pointwise nat_eq name) (first ∷ more)

-- a set's labels with these names; all of them where there are no names
abbrev pub cut_to : List (List ℕ) → List Label → List Label
cut_to names set = filter (λ label. is_kept names label.0) set

-- the sets, cut to these names
abbrev pub series_of : List (List ℕ) → List (List Label) → List (List Label)
series_of names sets = ascending labels_cmp (map (cut_to names) sets)
