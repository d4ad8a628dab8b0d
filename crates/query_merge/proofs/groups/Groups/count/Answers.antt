use Rattle.std.proofs.Common.{◌≡◌, ◌∙◌, ◌+◌, ℕ, List, ap, arith}
use Rattle.std.specs.Prelude.{unwrap_or, Option}
use Rattle.query_merge.specs.Gathering.{GroupsView, groups_in, points_of, value_of_point, with_group}
use Rattle.query_merge.specs.Plotted.{Group, listed_at}
use Rattle.query_merge.proofs.PlotLemmas.{counted, points_listed}
use Rattle.query_merge.proofs.groups.Groups.count.Goals as goal

pub add_in-requires : goal.add_in-requires
add_in-requires c =
    let held = c.args.self.now in
    let groups : groups_in c.self.inside.values ≡ held.groups = ap (λ (g : GroupsView). g.groups) c.self.view_is in
    let same : value_of_point (points_of (groups_in c.self.inside.values) c.args.labels) c.args.point ≡ unwrap_or (listed_at held.groups c.args.labels c.args.point) 0 =
    ap (λ (gs : List Group). value_of_point (points_of gs c.args.labels) c.args.point) groups
    ∙ ap (λ (found : Option ℕ). unwrap_or found 0) (points_listed held.groups c.args.labels c.args.point) in
    let below = c.requires.within c.args.labels c.args.point in let room = c.requires.room in omega arith

pub returns : goal.returns
returns c =
    let groups : groups_in c.self.inside.values ≡ c.args.self.now.groups = ap (λ (g : GroupsView). g.groups) c.self.view_is in
    let total : c.self.inside.total ≡ c.args.self.now.total = ap (λ (g : GroupsView). g.total) c.self.view_is in
    counted c.args.self.now _ c.args.labels c.args.point c.args.value
    (c.in_ok-add_in.ensures ∙ ap (λ (gs : List Group). with_group gs c.args.labels c.args.point c.args.value) groups) (ap (λ n. n + c.args.value) total)
