use Rattle.segment_file.specs.Reading.{IsCut, texts}
use Rattle.segment_file.proofs.ReadAnswers.{handed}
use Rattle.segment_file.proofs.ReadNumbers.{cut_length, cut_text, whole_text}
use Rattle.segment_file.proofs.cursor.Cursor.text.Goals as goal

pub returns-in_err-length : goal.returns-in_err-length
returns-in_err-length c =
    handed c.from_residual.result c.in_err-length.field-0.0 _ (IsCut texts c.args.self.now) c.from_residual.ensures.1 (cut_length c.args.self.now c.in_err-length.field-0.0 c.in_err-length.ensures)

pub returns-in-None : goal.returns-in-None
returns-in-None c =
    cut_text c.args.self.now c.four.new.self c.in_ok-length.length c.missing.result c.in_ok-length.ensures c.in-None.ensures.0 c.missing.ensures.rule
    (rw c.in-None.ensures.1 at c.missing.ensures.at)

pub returns-in-Some : goal.returns-in-Some
returns-in-Some c =
    whole_text c.args.self.now c.four.new.self c.take.new.self c.in_ok-length.length c.in-Some.text.now c.in_ok-length.ensures c.in-Some.ensures.0 c.in-Some.ensures.1
