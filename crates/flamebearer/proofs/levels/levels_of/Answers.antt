use Rattle.std.proofs.Common.{◌≡◌, ◌<◌, [], length, map, Vec, Global, vec_len, arith, sym, ap, ◌∙◌, subst}
use Rattle.std.proofs.lemmas.List.{length-map, length_push, map_push, nil_from_length}
use Rattle.std.proofs.lemmas.Bool.{eqb-false, eqb-true}
use Rattle.flamebearer.specs.declared.levels.Spot.{Spot}
use Rattle.flamebearer.specs.Spots.{AreStacks, IsNext}
use Rattle.flamebearer.proofs.SpanLemmas.{own-all, spanned}
use Rattle.flamebearer.proofs.LevelLemmas.{AreSoFar, so-far-deep, so-far-end, so-far-more, so-far-none}
use Rattle.flamebearer.proofs.levels.levels_of.Goals as goal

pub first_level-requires : goal.first_level-requires
first_level-requires c =
    let bounded = c.requires.side.bounded in
    let whole = own-all c.args.branches.now c.args.values.now c.requires.side.many in omega arith

pub next_level-requires-clause-spans : goal.next_level-requires-clause-spans
next_level-requires-clause-spans c =
    spanned c.args.branches.now c.ends-ends.result.now c.args.values.now (record { framed = c.requires.framed; right = c.ends-ends.ensures }) c.requires.side

pub loop-ends-init : goal.loop-ends-init
loop-ends-init c =
    let are : AreStacks c.args.branches.now c.ends-ends.result.now = record { framed = c.requires.framed; right = c.ends-ends.ensures } in
    let spans = spanned c.args.branches.now c.ends-ends.result.now c.args.values.now are c.requires.side in
    rw c.new-levels.ensures.items
    (so-far-none c.args.branches.now c.ends-ends.result.now c.args.values.now c.args.kept.now c.in_ok-level.level.items c.requires.side.many spans.many c.in_ok-level.ensures)

pub loop-ends-smaller : goal.loop-ends-smaller
loop-ends-smaller c =
    let apart = eqb-false (vec_len c.loop-ends.level) 0 (sym c.is_empty.ensures ∙ c.loop-ends-test.true) in
    let some : 0 < length c.loop-ends.level.items = omega (arith, c.loop-ends.level.ok.0) in
    let deep = so-far-deep c.args.branches.now c.ends-ends.result.now c.args.values.now c.args.kept.now _ c.loop-ends.level.items c.loop-ends.invariant some in
    let many = length-map c.loop-ends.levels.items (λ (level : Vec Spot Global). level.items) in
    let more = ap length c.in_ok-push.ensures.items ∙ length_push c.loop-ends.levels.items c.loop-ends.level in
    omega arith

pub loop-ends-preserved : goal.loop-ends-preserved
loop-ends-preserved c =
    let apart = eqb-false (vec_len c.loop-ends.level) 0 (sym c.is_empty.ensures ∙ c.loop-ends-test.true) in
    let some : 0 < length c.loop-ends.level.items = omega (arith, c.loop-ends.level.ok.0) in
    let are : AreStacks c.args.branches.now c.ends-ends.result.now = record { framed = c.requires.framed; right = c.ends-ends.ensures } in
    let next = subst (λ level. IsNext c.ends-ends.result.now c.args.values.now c.args.kept.now level c.in_ok-next.next.items) c.deref.ensures.value c.in_ok-next.ensures in
    subst (λ levels. AreSoFar c.args.branches.now c.ends-ends.result.now c.args.values.now c.args.kept.now levels c.in_ok-next.next.items)
    (sym (ap (map (λ level. level.items)) c.in_ok-push.ensures.items ∙ map_push (λ level. level.items) c.loop-ends.levels.items c.loop-ends.level))
    (so-far-more c.args.branches.now c.ends-ends.result.now c.args.values.now c.args.kept.now (map (λ level. level.items) c.loop-ends.levels.items) c.loop-ends.level.items c.in_ok-next.next.items
    are some c.loop-ends.invariant next)

pub returns-clause-levels : goal.returns-clause-levels
returns-clause-levels c =
    let same = eqb-true (vec_len c.loop-ends.level) 0 (sym c.is_empty.ensures ∙ c.loop-ends-test.false) in
    let none : c.loop-ends.level.items ≡ [] = nil_from_length c.loop-ends.level.items (omega (arith, c.loop-ends.level.ok.0)) in
    so-far-end c.args.branches.now c.ends-ends.result.now c.args.values.now c.args.kept.now _ c.loop-ends.level.items c.loop-ends.invariant none
