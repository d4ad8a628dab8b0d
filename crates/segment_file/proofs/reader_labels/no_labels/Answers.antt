use Rattle.segment_file.proofs.ReadLabels.{none_named}
use Rattle.segment_file.proofs.reader_labels.no_labels.Goals as goal

pub returns-in-Ok : goal.returns-in-Ok
returns-in-Ok c = none_named c.in-Ok.labels c.in-Ok.ensures.read.2.exact
