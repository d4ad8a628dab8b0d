use Rattle.std.proofs.Common.{◌≡◌, ◌∙◌, ap, map, subst, sym}
use Rattle.flamebearer.specs.Branches.{stacks_of}
use Rattle.flamebearer.specs.Sides.{IsSide, nodes_with}
use Rattle.diff_render.specs.Doubles.{AreOfBoth, node_at}
use Rattle.diff_render.specs.Joining.{IsWhole}
use Rattle.diff_render.proofs.EndLemmas.{all_some, half_side, half_values, of_both}
use Rattle.diff_render.proofs.both.both_of.Goals as goal

left_whole : (c : goal.In_ok-branches) → IsWhole c.frames.result.now c.parts.result.1.now
left_whole c = record { ordered = c.frames.ensures.ordered; side = subst (λ stacks. IsSide stacks c.parts.result.1.now) (sym c.frames.ensures.stacks) c.parts.ensures.side }

right_whole : (c : goal.In_ok-branches) → IsWhole c.frames-2.result.now c.parts-2.result.1.now
right_whole c = record { ordered = c.frames-2.ensures.ordered; side = subst (λ stacks. IsSide stacks c.parts-2.result.1.now) (sym c.frames-2.ensures.stacks) c.parts-2.ensures.side }

left_is : (c : goal.In_ok-branches) → nodes_with (stacks_of c.frames.result.now) c.parts.result.1.now ≡ c.args.left.now
left_is c = ap (λ stacks. nodes_with stacks c.parts.result.1.now) c.frames.ensures.stacks ∙ c.parts.ensures.nodes

right_is : (c : goal.In_ok-branches) → nodes_with (stacks_of c.frames-2.result.now) c.parts-2.result.1.now ≡ c.args.right.now
right_is c = ap (λ stacks. nodes_with stacks c.parts-2.result.1.now) c.frames-2.ensures.stacks ∙ c.parts-2.ensures.nodes

pub returns-clause-both : goal.returns-clause-both
returns-clause-both c =
    rw c.in_ok-branches.ensures
    (subst (λ nodes. AreOfBoth nodes c.args.right.now (stacks_of c.in_ok-joined.joined.frames.items)) (left_is c)
    (subst (λ nodes. AreOfBoth (nodes_with (stacks_of c.frames.result.now) c.parts.result.1.now) nodes (stacks_of c.in_ok-joined.joined.frames.items)) (right_is c)
    (of_both c.frames.result.now c.parts.result.1.now c.frames-2.result.now c.parts-2.result.1.now _ _ _ (left_whole c) (right_whole c) c.in_ok-joined.ensures)))

pub returns-clause-left : goal.returns-clause-left
returns-clause-left c =
    rw c.in_ok-branches.ensures
    (subst (λ nodes. nodes_with (stacks_of c.in_ok-joined.joined.frames.items) c.in_ok-joined.joined.left.items ≡ map (node_at nodes) (stacks_of c.in_ok-joined.joined.frames.items)) (left_is c)
    (half_values c.frames.result.now c.parts.result.1.now _ _ _ (left_whole c) c.in_ok-joined.ensures.of_left))

pub returns-clause-right : goal.returns-clause-right
returns-clause-right c =
    rw c.in_ok-branches.ensures
    (subst (λ nodes. nodes_with (stacks_of c.in_ok-joined.joined.frames.items) c.in_ok-joined.joined.right.items ≡ map (node_at nodes) (stacks_of c.in_ok-joined.joined.frames.items)) (right_is c)
    (half_values c.frames-2.result.now c.parts-2.result.1.now _ _ _ (right_whole c) c.in_ok-joined.ensures.of_right))

pub returns-clause-left_side : goal.returns-clause-left_side
returns-clause-left_side c =
    rw c.in_ok-branches.ensures
    (half_side c.frames.result.now c.parts.result.1.now _ _ _ (left_whole c) c.in_ok-joined.ensures.of_left (all_some c.in_ok-joined.joined.frames.items))

pub returns-clause-right_side : goal.returns-clause-right_side
returns-clause-right_side c =
    rw c.in_ok-branches.ensures
    (half_side c.frames-2.result.now c.parts-2.result.1.now _ _ _ (right_whole c) c.in_ok-joined.ensures.of_right (all_some c.in_ok-joined.joined.frames.items))
