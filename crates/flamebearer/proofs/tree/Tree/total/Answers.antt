use Rattle.std.proofs.Common.{◌∙◌, arith, sym, ap}
use Rattle.std.specs.Prelude.{sum_by}
use Rattle.flamebearer.specs.Trees.{Node}
use Rattle.flamebearer.proofs.SpanLemmas.{own-all}
use Rattle.flamebearer.proofs.tree.Tree.total.Goals as goal

pub total_own-requires : goal.total_own-requires
total_own-requires c =
    let whole = own-all c.self.inside.branches c.self.inside.values.items c.self.invariant.many in
    let bounded = c.self.invariant.bounded in
    rw c.deref.ensures.value (omega (arith, whole, bounded))

pub returns-clause-total : goal.returns-clause-total
returns-clause-total c =
    rw (c.total_own.ensures, c.deref.ensures.value)
    (sym (own-all c.self.inside.branches c.self.inside.values.items c.self.invariant.many) ∙ ap (sum_by (λ (node : Node). node.own)) c.self.view_is)

pub returns-clause-bound : goal.returns-clause-bound
returns-clause-bound c =
    let whole = own-all c.self.inside.branches c.self.inside.values.items c.self.invariant.many in
    let bounded = c.self.invariant.bounded in
    rw (c.total_own.ensures, c.deref.ensures.value) (omega (arith, whole, bounded))
