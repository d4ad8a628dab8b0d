use Rattle.std.proofs.Common.{◌∙◌, ◌+◌, sym, drop, get_or, map, true, false}
use Rattle.std.proofs.Math.Seq.{map-set_same}
use Rattle.selector.specs.Matching.{holds, seen_labels}
use Rattle.selector.specs.Matchers.{matching_of}
use Rattle.selector.proofs.HeldLemmas.{next_is, held_at}
use Rattle.selector.proofs.matchers.all_hold.Goals as goal

pub returns-in_err-holds-clause-unchanged : goal.returns-in_err-holds-clause-unchanged
returns-in_err-holds-clause-unchanged c =
    map-set_same matching_of c.loop-matcher.matchers c.loop-matcher.matcher-index c.holds.new.self c.matcher-item.result c.holds.ensures.unchanged
    ∙ c.loop-matcher.invariant.same

pub returns-then-not-branch-clause-exact : goal.returns-then-not-branch-clause-exact
returns-then-not-branch-clause-exact c =
    let loop = c.loop-matcher.invariant in
    let first = c.args.matchers.now in
    let now = c.loop-matcher.matchers in
    let i = c.loop-matcher.matcher-index in
    let item = c.matcher-item.result in
    held_at (holds (seen_labels c.args.labels.now c.args.kind.now)) (map matching_of first) (drop i (map matching_of first))
    (drop (i + 1) (map matching_of first)) (matching_of (get_or now i item)) false (next_is matching_of first now i item loop.same c.loop-matcher-test.true)
    (sym c.in_ok-holds.ensures.exact ∙ c.if-not-branch.true) loop.held

pub returns-then-not-branch-clause-unchanged : goal.returns-then-not-branch-clause-unchanged
returns-then-not-branch-clause-unchanged c =
    map-set_same matching_of c.loop-matcher.matchers c.loop-matcher.matcher-index c.holds.new.self c.matcher-item.result c.holds.ensures.unchanged
    ∙ c.loop-matcher.invariant.same

pub loop-matcher-preserved : goal.loop-matcher-preserved
loop-matcher-preserved c =
    let loop = c.loop-matcher.invariant in
    let first = c.args.matchers.now in
    let now = c.loop-matcher.matchers in
    let i = c.loop-matcher.matcher-index in
    let item = c.matcher-item.result in
    record {
      same = map-set_same matching_of now i c.holds.new.self item c.holds.ensures.unchanged ∙ loop.same;
      held = held_at (holds (seen_labels c.args.labels.now c.args.kind.now)) (map matching_of first) (drop i (map matching_of first))
          (drop (i + 1) (map matching_of first)) (matching_of (get_or now i item)) true (next_is matching_of first now i item loop.same c.loop-matcher-test.true)
          (sym c.in_ok-holds.ensures.exact ∙ c.if-not-branch.false) loop.held;
    }
