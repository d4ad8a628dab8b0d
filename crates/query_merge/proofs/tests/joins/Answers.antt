use Rattle.std.proofs.Common.{◌∙◌, sym}
use Rattle.query_merge.proofs.QueryLemmas.{query_once}
use Rattle.query_merge.proofs.tests.joins.Goals as goal

-- both queries are read of one text
pub join-requires-clause-query : goal.join-requires-clause-query
join-requires-clause-query c =
    c.add_to_merge.ensures.query
    ∙ query_once c.args.query.now c.in_ok-merge.merge.query c.in_ok-other.other.query c.in_ok-merge.ensures.query c.in_ok-other.ensures.query
    ∙ sym c.add_to_merge-2.ensures.query
