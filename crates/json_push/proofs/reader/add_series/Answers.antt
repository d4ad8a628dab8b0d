use Rattle.json_bodies.specs.PushRead.{series_of}
use Rattle.json_push.proofs.PushLemmas.{added_series, label_fault}
use Rattle.json_push.proofs.reader.add_series.Goals as goal

pub returns-in-Ok : goal.returns-in-Ok
returns-in-Ok c =
    added_series c.args.moment_ms c.args.number c.args.push.now c.add_samples.new.push c.args.series.now c.in-Ok.base c.add_samples.result
    (rw c.deref.ensures.value at c.in-Ok.ensures) (rw c.deref-in-Ok.ensures.value at c.add_samples.ensures)

pub returns-in-Err : goal.returns-in-Err
returns-in-Err c =
    label_fault c.args.moment_ms c.args.number c.args.push.now (series_of c.args.series.now) c.in-Err.refused c.of_labels.result
    (rw c.deref.ensures.value at c.in-Err.ensures) c.of_labels.ensures
