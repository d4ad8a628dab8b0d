use Rattle.std.proofs.Common.{◌+◌, arith}
use Rattle.flamebearer.specs.Entries.{nodes_of}
use Rattle.flamebearer.proofs.NodeLemmas.{fresh-more, take-path}
use Rattle.flamebearer.proofs.tree.push_rest.Goals as goal

pub loop-at-preserved : goal.loop-at-preserved
loop-at-preserved c =
    let held = c.loop-at.invariant in
    let far = held.far in
    record {
      far = omega arith;
      near = omega arith;
      nodes = fresh-more (nodes_of c.args.entries.now.items) (nodes_of c.loop-at.entries.items) _ c.args.frames.now c.args.shared c.loop-at.at c.args.value far held.nodes c.in_ok-push_frame.ensures.nodes;
      path = take-path (c.loop-at.at + 1) _ c.args.frames.now c.in_ok-push_frame.ensures.path;
      whole = λ _. c.in_ok-push_frame.ensures.path;
      deep = λ was. c.in_ok-push_frame.ensures.deep (held.deep was);
      places = c.in_ok-push_frame.ensures.places;
    }
