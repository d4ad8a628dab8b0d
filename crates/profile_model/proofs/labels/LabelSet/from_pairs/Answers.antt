use Rattle.std.proofs.Common.{◌≤◌, length}
use Rattle.profile_model.specs.LabelSets.{with_value}
use Rattle.profile_model.specs.Limits.{most_labels}
use Rattle.profile_model.proofs.LabelLemmas.{read_labels}
use Rattle.profile_model.proofs.labels.LabelSet.from_pairs.Goals as goal

pub returns-clause-read : goal.returns-clause-read
returns-clause-read c =
    let few : length (with_value c.args.pairs.now) ≤ most_labels = rw (← c.count_with_value.ensures) c.if-count_with_value-gt-MAX_LABELS.false in
    let made = read_labels c.args.pairs.now c.in_default.ensures few in
    rw c.in_ok-gathered.ensures made.read

pub returns-clause-few : goal.returns-clause-few
returns-clause-few c =
    let few : length (with_value c.args.pairs.now) ≤ most_labels = rw (← c.count_with_value.ensures) c.if-count_with_value-gt-MAX_LABELS.false in
    let made = read_labels c.args.pairs.now c.in_default.ensures few in
    rw c.in_ok-gathered.ensures made.few

pub returns-clause-profile : goal.returns-clause-profile
returns-clause-profile c =
    let few : length (with_value c.args.pairs.now) ≤ most_labels = rw (← c.count_with_value.ensures) c.if-count_with_value-gt-MAX_LABELS.false in
    let made = read_labels c.args.pairs.now c.in_default.ensures few in
    rw c.in_ok-gathered.ensures made.profile
