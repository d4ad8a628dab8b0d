use Rattle.std.proofs.Common.{◌≡◌, ℕ, List, Err, ap, subst}
use Rattle.tenant_books.specs.declared.asks.PushAsk.{PushAsk}
use Rattle.store_core.specs.declared.fault.SettleFault.{SettleFault}
use Rattle.shared_store.specs.declared.refusal.Refusal.{Refusal}
use Rattle.shared_store.specs.declared.refusal.Refusal.TheVariants as refusals
use Rattle.shared_store.specs.Settled.{AreLeft, IsFullFor, SomeWouldBeKept}
use Rattle.shared_store.proofs.SettleLemmas.{one_left, one_would_be, same_records}
use Rattle.shared_store.proofs.settle.settle_one.Goals as goal

pub returns-clause-full : goal.returns-clause-full
returns-clause-full g c records is =
    let run = g.J.Names.run in
    let list = c.settle_asks.new.spine.list in
    let it = c.in-Err-Full.ensures.full c.in-Err-Full.records c.in-Err-Full.field-0-1 (ap Err c.in-Err-Full.field-0-is) in
    subst (λ (n : ℕ). IsFullFor run list c.args.ask n) (same_records c.in-Err-Full.records records is)
    (one_would_be run list c.args.ask c.in-Err-Full.records it.0
    (λ t. subst (λ (asks : List PushAsk). SomeWouldBeKept run list asks) c.in-Ok.ensures (it.1 t)))

pub returns-in-Err-Memory-clause-left : goal.returns-in-Err-Memory-clause-left
returns-in-Err-Memory-clause-left g c t =
    one_left g.J.Names.run c.args.store.now.flight c.settle_asks.new.store.flight c.args.spine.now.list c.settle_asks.new.spine.list c.args.ask SettleFault.Memory refusals.Memory (λ count is. cc)
    (subst (λ (asks : List PushAsk). AreLeft g.J.Names.run c.args.store.now.flight c.args.spine.now.list asks SettleFault.Memory c.settle_asks.new.store.flight c.settle_asks.new.spine.list)
    c.in-Ok.ensures (rw c.in-Err-Memory.field-0-is at c.in-Err-Memory.ensures.left t))

pub returns-in-Err-Disk-clause-left : goal.returns-in-Err-Disk-clause-left
returns-in-Err-Disk-clause-left g c t =
    one_left g.J.Names.run c.args.store.now.flight c.settle_asks.new.store.flight c.args.spine.now.list c.settle_asks.new.spine.list c.args.ask (SettleFault.Disk c.in-Err-Disk.count) (refusals.Disk c.in-Err-Disk.count) (λ count is. same_count c.in-Err-Disk.count count is)
    (subst (λ (asks : List PushAsk). AreLeft g.J.Names.run c.args.store.now.flight c.args.spine.now.list asks (SettleFault.Disk c.in-Err-Disk.count) c.settle_asks.new.store.flight c.settle_asks.new.spine.list)
    c.in-Ok.ensures (rw c.in-Err-Disk.field-0-is at c.in-Err-Disk.ensures.left t))
  where
    same_count : (a b : ℕ) → ◌≡◌ {A = SettleFault} (SettleFault.Disk a) (SettleFault.Disk b) → ◌≡◌ {A = Refusal} (refusals.Disk a) (refusals.Disk b)
    same_count a b is = cc
