use Rattle.std.proofs.Common.{sym, subst, List}
use Rattle.disk_trait.specs.declared.disk.FileId.TheVariants as names
use Rattle.profile_model.specs.declared.push.Push.{Push}
use Rattle.history_files.specs.History.{IsObjectOf}
use Rattle.history_files.proofs.OpenLemmas.{at_none, at_some}
use Rattle.store_core.proofs.OpenLemmas.{at_fault, cause_is, file_is, passes, stays_short}
use Rattle.store_core.proofs.opening.count_object.Goals as goal

pub returns-in-Ok-None-clause-stopped : goal.returns-in-Ok-None-clause-stopped
returns-in-Ok-None-clause-stopped g c file is = (
  file_is _ _ (cause_is _ _ is),
  λ history t booked totals long short pushes object bounded. at_none c.in-Ok-None.field-0 _ _ c.in-Ok-None.field-0-is (c.in-Ok-None.ensures.told t) pushes object,
)

pub returns-in-Err-Fault-clause-stopped : goal.returns-in-Err-Fault-clause-stopped
returns-in-Err-Fault-clause-stopped g c file is = (
  file_is _ _ (cause_is _ _ is),
  λ history t booked totals long short.
      let content = (g.D.Disk.view c.args.disk.now).files (names.Object c.args.entry.now.id) in
      let there : IsObjectOf c.args.entry.now c.in-Ok-Some.object.pushes content =
      at_some c.in-Ok-Some.field-0 c.in-Ok-Some.object _ _ c.in-Ok-Some.field-0-is (c.in-Ok-Some.ensures.told t) in
      let found : IsObjectOf c.args.entry.now c.pushes.result.now content =
      subst (λ (l : List Push). IsObjectOf c.args.entry.now l content) (sym c.pushes.ensures.value) there in
      passes c.args.entry.now content c.pushes.result.now found history
      (at_fault c.in-Err-Fault.field-0 c.in-Err-Fault.field-0-0 _ c.in-Err-Fault.field-0-is c.in-Err-Fault.ensures.passed history booked totals
      (stays_short c.args.entry.now content c.pushes.result.now found history long short)),
)
