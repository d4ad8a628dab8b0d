use Rattle.std.proofs.Common.{◌≡◌, [], rules, sym, subst}
use Rattle.query_merge.specs.Joining.{IsNext}
use Rattle.query_merge.proofs.JoinLemmas.{Walked, walk-ends, walk-goes_on}
use Rattle.query_merge.proofs.join.joined.Goals as goal

pub loop-samples-preserved : goal.loop-samples-preserved
loop-samples-preserved c =
    let next : IsNext c.loop-samples.rest.0.now c.loop-samples.rest.1.now c.in-Some.next.sample c.in-Some.next.first.now c.in-Some.next.second.now = search rules in
    subst (λ samples. Walked c.args.first.now c.args.second.now samples c.in-Some.next.first.now c.in-Some.next.second.now) (sym c.in_ok-push.ensures.items)
    (walk-goes_on c.args.first.now c.args.second.now c.loop-samples.samples.items c.loop-samples.rest.0.now c.loop-samples.rest.1.now c.in-Some.next.sample
    c.in-Some.next.first.now c.in-Some.next.second.now next c.loop-samples.invariant)

ended : (c : goal.In_default) → Walked c.args.first.now c.args.second.now c.loop-samples.samples.items [] []
ended c =
    let none : (c.loop-samples.rest.0.now ≡ []) × (c.loop-samples.rest.1.now ≡ []) = search rules in
    subst (λ first. Walked c.args.first.now c.args.second.now c.loop-samples.samples.items first []) none.0
    (subst (λ second. Walked c.args.first.now c.args.second.now c.loop-samples.samples.items c.loop-samples.rest.0.now second) none.1 c.loop-samples.invariant)

pub returns-clause-both : goal.returns-clause-both
returns-clause-both c =
    (walk-ends c.args.first.now c.args.second.now c.loop-samples.samples.items c.requires.first c.requires.room (ended c)).1
