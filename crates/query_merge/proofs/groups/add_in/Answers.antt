use Rattle.std.proofs.Common.{◌≡◌, ◌∙◌, ℕ, List, ap, arith, rules}
use Rattle.std.specs.Prelude.{Option, unwrap_or}
use Rattle.std.proofs.lemmas.Result.{on_ok_weaker}
use Rattle.std.specs.BTreeMap.{BTreeMap, get}
use Rattle.profile_model.specs.LabelOrder.{labels_cmp}
use Rattle.query_merge.specs.Gathering.{value_of_point, with_value}
use Rattle.query_merge.proofs.PlotLemmas.{lent_points, put_shown}
use Rattle.query_merge.proofs.groups.add_in.Goals as goal

pub add_at-requires : goal.add_at-requires
add_at-requires c =
    let held : c.or_insert-points.result.now ≡ unwrap_or (get labels_cmp c.args.values.now c.args.labels) c.new.result =
    c.or_insert-points.ensures.value ∙ ap (λ (found : Option (BTreeMap ℕ ℕ)). unwrap_or found c.new.result) c.in_ok-values.ensures.value in
    let same = lent_points c.args.values.now.entries c.args.labels c.new.result c.or_insert-points.result.now held c.new.ensures.empty in
    let worth = ap (λ (points : List (ℕ × ℕ)). value_of_point points c.args.point) same in
    let room = c.requires in omega arith

pub returns : goal.returns
returns c =
    let held : c.or_insert-points.result.now ≡ unwrap_or (get labels_cmp c.args.values.now c.args.labels) c.new.result =
    c.or_insert-points.ensures.value ∙ ap (λ (found : Option (BTreeMap ℕ ℕ)). unwrap_or found c.new.result) c.in_ok-values.ensures.value in
    let same = lent_points c.args.values.now.entries c.args.labels c.new.result c.or_insert-points.result.now held c.new.ensures.empty in
    on_ok_weaker c.add_at.result
    (λ added. put_shown c.args.values.now.entries _ c.args.labels c.add_at.new.points _ (search rules)
    (added ∙ ap (λ (points : List (ℕ × ℕ)). with_value points c.args.point c.args.value) same)) c.add_at.ensures
