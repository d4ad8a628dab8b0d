use Rattle.std.proofs.Common.{refl}
use Rattle.history_files.proofs.ObjectLemmas.{broken_by, broken_isnt, object_isnt}
use Rattle.history_files.proofs.object.object_in.Goals as goal

pub returns-then-not-describes-clause-told : goal.returns-then-not-describes-clause-told
returns-then-not-describes-clause-told c = object_isnt c.args.entry.now c.args.bytes.now c.in-Ok.object c.in-Ok.ensures.read (c.if-not-describes.ensures.no refl)

pub returns-in-Err-Fault-clause-told : goal.returns-in-Err-Fault-clause-told
returns-in-Err-Fault-clause-told c = broken_isnt c.args.entry.now c.args.bytes.now c.in-Err-Fault.field-0-0.rule c.in-Err-Fault.field-0-0.at
    (broken_by c.args.bytes.now c.in-Err-Fault.field-0 c.in-Err-Fault.field-0-0 c.in-Err-Fault.field-0-is c.in-Err-Fault.ensures.read)
