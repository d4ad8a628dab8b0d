use Rattle.std.proofs.Common.{◌≡◌, ◌-◌, ◌++◌, length, map, ap, arith, ◌∙◌}
use Rattle.std.proofs.lemmas.List.{length-take-le}
use Rattle.flamebearer.specs.Entries.{nodes_of}
use Rattle.flamebearer.specs.Pushes.{fresh, fronts, grown}
use Rattle.flamebearer.proofs.PrefixLemmas.{cut_short}
use Rattle.flamebearer.proofs.NodeLemmas.{deep-grown, grown-front, places-front, places-grown}
use Rattle.flamebearer.proofs.tree.push_stack.Goals as goal

pub push_rest-requires-clause-within : goal.push_rest-requires-clause-within
push_rest-requires-clause-within c =
    cut_short c.shared_frames-shared.result c.args.before.now c.args.frames.now c.shared_frames-shared.ensures c.requires.greater

pub push_rest-requires-clause-places : goal.push_rest-requires-clause-places
push_rest-requires-clause-places c =
    let part = c.shared_frames-shared.ensures in
    places-grown c.args.entries.now.items _ _ c.args.frames.now _ c.shared_frames-shared.result _ c.args.value
    (places-front c.args.entries.now.items c.args.spine.now.items _ c.args.before.now c.args.frames.now (length c.args.before.now) c.shared_frames-shared.result
    c.requires.places part.in_first part.shared c.truncate.ensures.items)
    c.grow.ensures.many c.grow.ensures.nodes

pub returns-clause-nodes : goal.returns-clause-nodes
returns-clause-nodes c =
    let part = c.shared_frames-shared.ensures in
    let shared = c.shared_frames-shared.result in
    let value = c.args.value in
    let frames = c.args.frames.now in
    let old = nodes_of c.args.entries.now.items in
    let many = c.requires.places.many in
    let inner = part.in_first in
    let count : length c.deref.result.now ≡ shared = ap length (c.deref.ensures.value ∙ c.truncate.ensures.items) ∙ length-take-le shared c.args.spine.now.items (omega arith) in
    let grew : nodes_of c.grow.new.entries.items ≡ map (grown shared frames value) old =
    c.grow.ensures.nodes ∙ (λ i. map (grown (count i) (c.requires.path i) value) old) ∙ grown-front shared c.args.before.now frames value old part.shared in
    record {
      shared = shared;
      part = part;
      nodes = c.in_ok-push_rest.ensures.nodes ∙ ap (λ ns. ns ++ map (fresh frames value) (fronts frames shared (length frames - shared))) grew;
    }

pub returns-clause-deep : goal.returns-clause-deep
returns-clause-deep c = λ was.
    c.in_ok-push_rest.ensures.deep (deep-grown c.args.entries.now.items _ _ _ c.args.value c.grow.ensures.depths c.grow.ensures.nodes was)
