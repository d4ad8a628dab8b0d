-- Label sets while they are gathered.
use Rattle.std.specs.Prelude.{◌≡◌, List}
use Rattle.profile_model.specs.declared.profile.Profile.{Profile}
use Rattle.label_queries.specs.Gathered.{Gathered}
use Rattle.label_queries.specs.Labels.{label_sets_of}

-- the sets are those of these profiles that the selectors ask for
abbrev pub AreSetsOf : Gathered → List Profile → Type 0
AreSetsOf lists profiles = lists.sets ≡ label_sets_of lists.selectors profiles
