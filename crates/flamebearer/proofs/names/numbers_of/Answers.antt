use Rattle.std.proofs.Common.{arith, ap, ◌∙◌}
use Rattle.flamebearer.specs.Branches.{stacks_of}
use Rattle.flamebearer.specs.Pictures.{number_of}
use Rattle.flamebearer.specs.Spots.{name_at}
use Rattle.flamebearer.proofs.GatherLemmas.{map-end, map-grow}
use Rattle.flamebearer.proofs.names.numbers_of.Goals as goal

pub loop-spot-preserved : goal.loop-spot-preserved
loop-spot-preserved c = λ names are.
    map-grow (λ spot. number_of names (name_at (stacks_of c.args.labels.now.frames.now) spot.stands)) c.args.level.now c.loop-spot.spot-index _ c.loop-spot.row.items c.push.new.self.items c.number_of.result
    (omega arith) (c.loop-spot.invariant names are) (c.number_of.ensures names are ∙ ap (number_of names) c.name.ensures) c.in_ok-push.ensures.items

pub returns : goal.returns
returns c = λ names are.
    map-end (λ spot. number_of names (name_at (stacks_of c.args.labels.now.frames.now) spot.stands)) c.args.level.now c.loop-spot.spot-index c.loop-spot.row.items (omega arith) (c.loop-spot.invariant names are)
