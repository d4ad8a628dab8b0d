use Rattle.std.proofs.Common.{ap, inl, inr}
use Rattle.history_pass.specs.declared.view.Mark.{Mark}
use Rattle.shared_store.proofs.SettleLemmas.{decided_left}
use Rattle.shared_store.proofs.settle.settle_asks.Goals as goal

pub returns-in-Err-Memory-clause-left : goal.returns-in-Err-Memory-clause-left
returns-in-Err-Memory-clause-left g c t = inr (inl (c.in-Err-Memory.ensures.stays, ap (λ (m : Mark). m.list) c.in-Err-Memory.ensures.unchanged))

pub returns-in-Err-Disk-clause-left : goal.returns-in-Err-Disk-clause-left
returns-in-Err-Disk-clause-left g c t = inr (inl (c.in-Err-Disk.ensures.stays, ap (λ (m : Mark). m.list) c.in-Err-Disk.ensures.unchanged))

pub returns-clause-left : goal.returns-clause-left
returns-clause-left g c t =
    decided_left g.J.Names.run c.args.store.now.flight c.decide.new.store.flight c.settle_landed.new.store.flight c.args.spine.now.list c.decide.new.spine.list c.settle_landed.new.spine.list
    c.args.asks.items c.settle_landed.result c.in-Ok.ensures.lands (c.settle_landed.ensures.left t)
