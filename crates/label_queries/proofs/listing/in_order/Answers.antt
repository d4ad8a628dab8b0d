use Rattle.std.proofs.Common.{◌+◌, drop, map}
use Rattle.std.proofs.lemmas.List.{drop_more}
use Rattle.profile_model.specs.Stacks.{name_cmp}
use Rattle.label_queries.specs.Ordered.{ascending}
use Rattle.label_queries.proofs.ListingLemmas.{one_name_more}
use Rattle.label_queries.proofs.listing.in_order.Goals as goal

pub loop-name-preserved : goal.loop-name-preserved
loop-name-preserved c =
    let names = c.args.names.now in
    let i = c.loop-name.name-index in
    one_name_more c.loop-name.ordered.keys c.insert.new.self.keys _ (drop i names) (drop (i + 1) names) (ascending name_cmp (map (λ name. name.now) names))
    (drop_more names i _ c.loop-name-test.true) c.in_ok-insert.ensures.keys c.loop-name.invariant
