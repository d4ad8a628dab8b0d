use Rattle.std.proofs.Common.{inl, inr, ℕ, Bor, List, map, arith, ⊎_elim, ◌∙◌}
use Rattle.std.specs.declared.cmp.Reverse.{Reverse}
use Rattle.std.proofs.lemmas.Bool.{cases_lt}
use Rattle.flamebearer.specs.declared.branches.Value.{Value}
use Rattle.flamebearer.specs.Ranks.{weight_in}
use Rattle.flamebearer.proofs.RankLemmas.{all-kept, flag-step, flagged-all, ranked-long}
use Rattle.flamebearer.proofs.kept.kept_places.Goals as goal

pub index-requires : goal.index-requires
index-requires c =
    let long = ranked-long (λ (one : Reverse ℕ × ℕ). one.1) _ c.args.count c.in_ok-ranked.ranked.items c.in_ok-ranked.ensures in
    let cut = c.min-rank-end.ensures in omega (arith, c.in_ok-ranked.ranked.ok.0)

pub index_mut-requires : goal.index_mut-requires
index_mut-requires c =
    let cut = c.min-rank-end.ensures in
    let step = flag-step (λ (one : Reverse ℕ × ℕ). one.1) _ c.args.count c.in_ok-ranked.ranked.items c.loop-rank.rank c.loop-rank.kept.items c.index.result.now c.in_ok-ranked.ensures c.loop-rank.invariant
    (omega arith) c.index.ensures in omega (arith, c.loop-rank.kept.ok.0)

pub loop-rank-preserved : goal.loop-rank-preserved
loop-rank-preserved c =
    let cut = c.min-rank-end.ensures in
    (flag-step (λ (one : Reverse ℕ × ℕ). one.1) _ c.args.count c.in_ok-ranked.ranked.items c.loop-rank.rank c.loop-rank.kept.items c.index.result.now c.in_ok-ranked.ensures c.loop-rank.invariant
    (omega arith) c.index.ensures).1

pub returns : goal.returns
returns c =
    let cut = c.min-rank-end.ensures in
    let end = c.loop-rank-test.false in
    let near = c.loop-rank.auto.rank-end in
    flagged-all _ c.args.count c.args.most _ c.loop-rank.rank c.loop-rank.kept.items c.in_ok-ranked.ensures c.loop-rank.invariant
    (⊎_elim (λ less. inr ((omega arith), omega arith)) (λ more. inl (omega arith)) (cases_lt c.args.count c.args.most))

pub returns-then-most-count : goal.returns-then-most-count
returns-then-most-count c =
    c.in_ok-all.ensures.items_if_clones_equal (λ y same. same)
    ∙ all-kept (weight_in (map (λ (side : Bor (List Value)). side.now) c.args.sides.now)) c.args.count c.args.most c.if-most-count.true
