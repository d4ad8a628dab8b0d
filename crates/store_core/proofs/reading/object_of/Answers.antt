use Rattle.history_files.proofs.OpenLemmas.{at_none, at_some}
use Rattle.store_core.proofs.ReadLemmas.{damaged_id, object_at, object_has}
use Rattle.store_core.proofs.reading.object_of.Goals as goal

pub returns-in-Ok-Some-clause-held : goal.returns-in-Ok-Some-clause-held
returns-in-Ok-Some-clause-held g c entries history t it =
    object_has (g.D.Disk.view c.args.disk.now).files entries c.args.entry.now history c.in-Ok-Some.object.pushes
    (at_some c.in-Ok-Some.field-0 c.in-Ok-Some.object _ _ c.in-Ok-Some.field-0-is (c.in-Ok-Some.ensures.told t)) it

pub returns-in-Ok-None-clause-damaged : goal.returns-in-Ok-None-clause-damaged
returns-in-Ok-None-clause-damaged g c id is = (
  damaged_id c.args.entry.now.id id is,
  λ entries history t it. at_none c.in-Ok-None.field-0 _ _ c.in-Ok-None.field-0-is (c.in-Ok-None.ensures.told t) _
      (object_at (g.D.Disk.view c.args.disk.now).files entries c.args.entry.now history it),
)
