use Rattle.std.proofs.Common.{◌≡◌, ◌∙◌, List, ap, arith, filter, get_or, length, take}
use Rattle.std.proofs.lemmas.List.{take_all}
use Rattle.profile_model.specs.LabelSets.{Label}
use Rattle.query_merge.proofs.GroupLemmas.{all_seen, none_seen, one_seen, stays_after}
use Rattle.query_merge.proofs.points.group_of.Goals as goal

pub loop-name-init : goal.loop-name-init
loop-name-init c = c.in_ok-group.ensures.cases ∙ none_seen c.args.names.now c.args.labels.now

pub loop-name-preserved : goal.loop-name-preserved
loop-name-preserved c =
    let labels = c.args.labels.now in
    let same : c.pairs-name-items.result.now ≡ labels = c.pairs-name-items.ensures.value in
    let long = ap length same in
    one_seen c.args.names.now labels c.loop-name.name-index c.loop-name-item.result c.loop-name.group c.named_or_other-group.result (omega arith)
    (c.loop-name-item.is ∙ ap (λ (l : List Label). get_or l c.loop-name.name-index c.loop-name-item.result) same)
    c.loop-name.invariant c.named_or_other-group.ensures

pub returns : goal.returns
returns c =
    let labels = c.args.labels.now in
    let long = ap length c.pairs-name-items.ensures.value in
    let all : take c.loop-name.name-index labels ≡ labels = take_all c.loop-name.name-index labels (omega arith) in
    c.own_labels.ensures.own ∙ all_seen c.args.names.now labels c.loop-name.group
    (c.loop-name.invariant ∙ ap (λ (seen : List Label). filter (stays_after c.args.names.now seen) labels) all)
