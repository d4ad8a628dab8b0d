-- Sums of stacks while they are gathered.
use Rattle.std.specs.Prelude.{◌≡◌, Bool, List, Some, flat_map, fold}
use Rattle.std.specs.BTreeMap.{BTreeMap, get}
use Rattle.profile_model.specs.LabelOrder.{labels_cmp}
use Rattle.profile_model.specs.LabelSets.{Label}
use Rattle.profile_model.specs.Sums.{Sample, with_added}
use Rattle.profile_model.specs.declared.profile.Profile.{Profile}
use Rattle.selector.specs.Matching.{matches}
use Rattle.selector.specs.declared.query.Query.{Query}
use Rattle.query_merge.specs.Asked.{asked_of, stacks_of}

-- a query, and the sums of what was added so far
pub record MergeView : Type 0 where
  pub query : Query
  pub sums : List Sample

-- the merge holds what its query comes to over these profiles
abbrev pub IsMergeOf : MergeView → List Profile → Type 0
IsMergeOf merge profiles = merge.sums ≡ stacks_of merge.query profiles

-- samples added one after another
abbrev pub with_samples : List Sample → List Sample → List Sample
with_samples sums samples = fold (λ sums sample. with_added sums sample.0 sample.1) sums samples

-- the samples of the profiles that a query asks for
abbrev pub asked_samples : Query → List Profile → List Sample
asked_samples query profiles = flat_map (λ profile. profile.values) (asked_of query profiles)

-- each verdict is whether a profile of the query's type with these labels matches
abbrev pub AreVerdicts : Query → BTreeMap (List Label) Bool → Type 0
AreVerdicts query verdicts =
    (labels : List Label) (verdict : Bool) → get labels_cmp verdicts labels ≡ Some verdict → verdict ≡ matches query.selector labels query.kind
