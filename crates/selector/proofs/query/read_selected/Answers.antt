use Rattle.std.proofs.Common.{lit<, map, subst, sym}
use Rattle.std.proofs.lemmas.Result.{MatchResult-weaker}
use Rattle.selector.specs.Grammar.{IsQueryOf}
use Rattle.selector.specs.Rests.{AtInside, AtQuery, matching_of}
use Rattle.selector.proofs.WrittenLemmas.{read_refused}
use Rattle.selector.proofs.SelectorLemmas.{cut_query, kind_query, query_of, broken_query}
use Rattle.selector.proofs.query.read_selected.Goals as goal

pub returns-in-Some : goal.returns-in-Some
returns-in-Some c =
    let text = c.args.text.now in
    let inside = c.in-Some.inside.now in
    let parts = c.in-Some.ensures.byte (lit< tt) (λ w o h. h) in
    let cut = cut_query text inside parts.2 parts.1 in
    MatchResult-weaker c.read_inside.result c.read_inside.ensures (λ matchers at. query_of text inside (map matching_of matchers.items) cut at)
    (read_refused AtQuery AtInside text inside (λ left broken. broken_query text inside left cut broken))

pub returns-in-None : goal.returns-in-None
returns-in-None c =
    subst (λ items. IsQueryOf c.args.text.now (map matching_of items)) (sym c.new.ensures.items)
    (kind_query c.args.text.now (c.in-None.ensures.byte (lit< tt) (λ w o h. h)))
