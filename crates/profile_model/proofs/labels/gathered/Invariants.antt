use Rattle.std.proofs.Common.{◌≡◌, [], drop}
use Rattle.profile_model.specs.LabelSets.{with_value}
use Rattle.profile_model.specs.LabelPlaces.{put_all}
use Rattle.profile_model.proofs.labels.gathered.Given as goal

-- what was taken, with what is left put in, is the whole
abbrev pub invariant-loop-name : goal.invariant-loop-name
invariant-loop-name l = put_all l.labels (with_value (drop l.name-index l.pairs)) ≡ put_all [] (with_value l.pairs)
