use Rattle.store_core.proofs.ReadLemmas.{part_stands, part_until}
use Rattle.store_core.proofs.store.Store.read_part.Goals as goal

pub returns-in-Ok-into_part-clause-part : goal.returns-in-Ok-into_part-clause-part
returns-in-Ok-into_part-clause-part g c history t held =
    part_stands history c.args.ask.now c.in-Ok.field-0-0 c.in-Ok.object c.args.at c.args.until c.in-Ok-into_part.part c.in-Ok.ensures.covers.from c.in-Ok.ensures.covers.until
    c.in-Ok.ensures.described (c.in-Ok.ensures.pushes history t held) c.in-Ok-into_part.ensures

pub returns-in-Ok-into_part-clause-until : goal.returns-in-Ok-into_part-clause-until
returns-in-Ok-into_part-clause-until g c = (
  c.in-Ok.field-0-0,
  c.in-Ok.ensures.covers,
  part_until c.args.ask.now c.in-Ok.field-0-0 c.in-Ok.object c.args.at c.args.until c.in-Ok-into_part.part c.in-Ok.ensures.described c.in-Ok-into_part.ensures,
)

pub returns-in-Ok-into_part-clause-found : goal.returns-in-Ok-into_part-clause-found
returns-in-Ok-into_part-clause-found g c = (c.in-Ok.field-0-0, c.in-Ok.ensures.covers, c.in-Ok.object, c.in-Ok.ensures.described, c.in-Ok-into_part.ensures)
