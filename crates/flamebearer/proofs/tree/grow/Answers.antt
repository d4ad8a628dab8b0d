use Rattle.std.proofs.Common.{◌+◌, [], get_or, ap, arith, refl, ◌∙◌}
use Rattle.std.proofs.lemmas.List.{length-set}
use Rattle.flamebearer.specs.Entries.{nodes_of, path_after}
use Rattle.std.proofs.Math.Seq.{map-set_same}
use Rattle.flamebearer.specs.declared.tree.Entry.{Entry}
use Rattle.flamebearer.proofs.NodeLemmas.{grown-none, grown-step, nodes-some, total-fits}
use Rattle.flamebearer.proofs.tree.grow.Goals as goal

pub loop-at-init : goal.loop-at-init
loop-at-init c = record {
  nodes = grown-none (path_after [] c.args.entries.now.items) c.args.value (nodes_of c.args.entries.now.items) (nodes-some [] c.args.entries.now.items);
  path = refl;
  depths = refl;
  many = refl;
}

pub overflow_add-index_mut : goal.overflow_add-index_mut
overflow_add-index_mut c =
    let n = c.loop-at.at-index in
    let i = get_or c.args.spine.now n 0 in
    let within = c.requires.places.within n (omega arith) in
    let many = c.loop-at.invariant.many in
    let value = c.index_mut.ensures.value in
    let small = c.requires.small in
    let fits = total-fits c.args.entries.now.items c.loop-at.entries.items n i c.args.value (path_after [] c.args.entries.now.items) c.index_mut.result.now (omega arith) c.requires.fits c.loop-at.invariant.nodes in
    let total = ap (λ e. e.total) value in
    omega arith

pub loop-at-preserved : goal.loop-at-preserved
loop-at-preserved c =
    let n = c.loop-at.at-index in
    let i = get_or c.args.spine.now n 0 in
    let within = c.requires.places.within n (omega arith) in
    let few = c.requires.few in
    let many = c.loop-at.invariant.many in
    let value = c.index_mut.ensures.value in
    let step = grown-step c.args.entries.now.items c.loop-at.entries.items n i c.args.value (path_after [] c.args.entries.now.items) c.index_mut.result.now _ (omega arith) (omega arith) many
    (record { name = ap (λ e. e.name) value; depth = ap (λ e. e.depth) value; own = ap (λ e. e.own) value; total = ap (λ e. e.total + c.args.value) value })
    c.requires.distinct (c.requires.places.are n (omega arith)) c.loop-at.invariant.nodes in
    record {
      nodes = step.0;
      path = step.1 ∙ c.loop-at.invariant.path;
      depths = map-set_same (λ (e : Entry). e.depth) c.loop-at.entries.items i _ c.index_mut.result.now (ap (λ e. e.depth) value) ∙ c.loop-at.invariant.depths;
      many = length-set c.loop-at.entries.items i _ ∙ many;
    }
