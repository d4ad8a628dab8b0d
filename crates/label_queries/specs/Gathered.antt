-- Label sets while they are gathered.
use Rattle.std.specs.Prelude.{List, if◌then◌else◌}
use Rattle.std.specs.BTreeSet.{insert_key}
use Rattle.profile_model.specs.LabelOrder.{labels_cmp}
use Rattle.profile_model.specs.LabelSets.{Label}
use Rattle.profile_model.specs.declared.profile.Profile.{Profile}
use Rattle.selector.specs.Matching.{Matching}
use Rattle.label_queries.specs.Labels.{is_asked, shown_labels}

-- the selectors, and the sets of the profiles that came so far
pub record Gathered : Type 0 where
  pub selectors : List (List Matching)
  pub sets : List (List Label)

-- one profile more
abbrev pub with_profile : Gathered → Profile → Gathered
with_profile gathered profile = record gathered {
  sets =
      if is_asked gathered.selectors profile then insert_key labels_cmp gathered.sets (shown_labels profile)
      else gathered.sets;
}
