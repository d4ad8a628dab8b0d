use Rattle.std.proofs.Common.{Bor, List, [], get_or, arith, ◌∙◌}
use Rattle.flamebearer.specs.declared.branches.Value.{Value}
use Rattle.flamebearer.proofs.RankLemmas.{total-small, weight-all, weight-more}
use Rattle.flamebearer.proofs.kept.weight_of.Goals as goal

abbrev none : Bor (List Value)
none = record { ref_ptr = (0, 0); now = [] }

pub overflow_add-weight : goal.overflow_add-weight
overflow_add-weight c =
    let is = c.requires.weights c.loop-side.side-index none c.loop-side-test.true in
    let small = total-small (get_or c.args.sides.now c.loop-side.side-index none).now c.args.place is.0 is.1 in
    let few = c.loop-side.invariant.few in
    let value = c.total_at-weight.ensures in
    let two = c.requires.few in omega arith

pub loop-side-preserved : goal.loop-side-preserved
loop-side-preserved c =
    let is = c.requires.weights c.loop-side.side-index none c.loop-side-test.true in
    let small = total-small (get_or c.args.sides.now c.loop-side.side-index none).now c.args.place is.0 is.1 in
    let few = c.loop-side.invariant.few in
    let value = c.total_at-weight.ensures in
    let more = weight-more (λ (side : Bor (List Value)). side.now) c.args.sides.now c.loop-side.side-index c.args.place none c.loop-side-test.true in
    let sum = c.loop-side.invariant.sum in
    record { sum = omega arith; few = omega arith }

pub returns : goal.returns
returns c = c.loop-side.invariant.sum ∙ weight-all (λ side. side.now) c.args.sides.now c.loop-side.side-index c.args.place (omega arith)
