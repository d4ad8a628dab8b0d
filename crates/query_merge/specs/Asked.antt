-- What a query asks for, and what it comes to.
use Rattle.std.specs.Prelude.{◌&&◌, Bool, List, filter, nat_eq}
use Rattle.std.specs.Cmp.Lexicographic.{pointwise}
use Rattle.profile_model.specs.ReadKinds.{parts_in}
use Rattle.profile_model.specs.Sums.{Sample}
use Rattle.profile_model.specs.declared.kind.ProfileType.{ProfileType}
use Rattle.profile_model.specs.declared.profile.Profile.{Profile}
use Rattle.push_history.specs.History.{sums_of_rows}
use Rattle.selector.specs.Matching.{matches}
use Rattle.selector.specs.declared.query.Query.{Query}

-- the five parts are the same
abbrev pub same_kind : ProfileType → ProfileType → Bool
same_kind one other = pointwise (pointwise nat_eq) (parts_in one) (parts_in other)

-- the profile has the query's type, and its labels match
abbrev pub is_asked : Query → Profile → Bool
is_asked query profile = same_kind profile.kind query.kind && matches query.selector profile.labels profile.kind

-- the profiles that the query asks for
abbrev pub asked_of : Query → List Profile → List Profile
asked_of query profiles = filter (is_asked query) profiles

-- for each stack of theirs, the sum of its values
abbrev pub stacks_of : Query → List Profile → List Sample
stacks_of query profiles = sums_of_rows (asked_of query profiles)
