use Rattle.std.proofs.Common.{map, refl, ◌∙◌}
use Rattle.label_queries.specs.Labels.{cut_to}
use Rattle.label_queries.proofs.ListingLemmas.{cut_in_order, one_set_more}
use Rattle.label_queries.proofs.listing.series_in.Goals as goal

pub loop-set-preserved : goal.loop-set-preserved
loop-set-preserved c =
    let names = map (λ name. name.now) c.args.names.now in
    one_set_more (λ set. set.items) _ (λ x y. refl) (cut_to names) c.loop-set.series.keys c.insert.new.self.keys c.in_ok-cut_to.field-0
    c.loop-set.set-iterator c.next.new.self _ c.in-Some.set.now
    c.in-Some.ensures.steps c.in_ok-insert.ensures.keys
    (c.in_ok-cut_to.ensures ∙ (λ i. cut_to (c.in_ok-wanted.ensures i) (c.pairs.ensures.value i)) ∙ cut_in_order names c.in-Some.set.now)
    c.loop-set.invariant
