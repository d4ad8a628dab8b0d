-- What adding profiles one after another comes to.
use Rattle.std.specs.Prelude.{◌&&◌, Bool, List, filter, fold, nat_le}
use Rattle.std.specs.List.{flat_map}
use Rattle.profile_model.specs.Sums.{Sample, with_added}
use Rattle.profile_model.specs.declared.profile.Profile.{Profile}
use Rattle.api_replies.specs.Replies.{is_matched}
use Rattle.request_meaning.specs.declared.ask.RenderAsk.{RenderAsk}

-- the profile stands in the window and is asked for
abbrev pub is_wanted : RenderAsk → Profile → Bool
is_wanted what profile = (nat_le what.part.from_ms profile.time_ms && nat_le profile.time_ms what.part.until_ms) && is_matched what profile

-- all samples of those that are, in order
abbrev pub wanted_samples : RenderAsk → List Profile → List Sample
wanted_samples what profiles = flat_map (λ profile. profile.values) (filter (is_wanted what) profiles)

-- the sums with these samples added in turn
abbrev pub with_samples : List Sample → List Sample → List Sample
with_samples sums samples = fold (λ sums sample. with_added sums sample.0 sample.1) sums samples
