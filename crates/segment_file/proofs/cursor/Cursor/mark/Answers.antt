use Rattle.segment_file.proofs.ReadNumbers.{cut_mark}
use Rattle.segment_file.proofs.cursor.Cursor.mark.Goals as goal

pub returns-in-None : goal.returns-in-None
returns-in-None c = cut_mark c.args.self.now c.missing.result c.in-None.ensures.0 c.missing.ensures.rule (rw c.in-None.ensures.1 at c.missing.ensures.at)
