use Rattle.std.proofs.Common.{subst}
use Rattle.segment_file.specs.Reading.{AreShort, CursorView}
use Rattle.segment_file.proofs.ReadNumbers.{cut_four}
use Rattle.segment_file.proofs.cursor.Cursor.four.Goals as goal

pub returns-in-None : goal.returns-in-None
returns-in-None c =
    cut_four c.args.self.now c.missing.result (subst (λ (v : CursorView). AreShort 4 v.rest) c.self.view_is c.in-None.ensures) c.missing.ensures.rule c.missing.ensures.at
