use Rattle.std.proofs.Common.{◌≡◌, length, vec_capacity}
use Rattle.std.specs.List.{All}
use Rattle.disk_trait.specs.Disk.{GoesOn}
use Rattle.shared_store.specs.Holds.{AreTied, IsAtEnd}
use Rattle.shared_store.specs.Flushes.{AreAnswers, HasFailed}
use Rattle.shared_store.proofs.flush.settle_each.Given as goal

abbrev pub invariant-loop-ask : goal.invariant-loop-ask
invariant-loop-ask g l =
    let run = g.J.Names.run in
    let view = g.D.Disk.view in
    record {
      tied : AreTied run (view l.store.disk) l.store l.spine.list;
      numbers : (l.spine.faults ≡ l.fn.spine.faults) × (l.spine.full ≡ l.fn.spine.full);
      at_end : run.tells → IsAtEnd l.store;
      none : run.tells → l.spine.list ≡ l.fn.spine.list;
      long : length l.told.items ≡ length l.yielded;
      capacity : vec_capacity l.told ≡ vec_capacity l.fn.told;
      answers : AreAnswers run l.fn.spine.list l.yielded l.told.items l.spine.list;
      failed : All (HasFailed (view l.fn.store.disk).faults (view l.store.disk).faults) l.told.items;
      goes_on : GoesOn (view l.fn.store.disk) (view l.store.disk);
    }
