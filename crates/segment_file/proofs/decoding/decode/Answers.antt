use Rattle.std.proofs.Common.{map, ◌-◌}
use Rattle.segment_file.specs.Files.{mark_of_objects}
use Rattle.segment_file.specs.Objects.{push_said}
use Rattle.segment_file.specs.ReadFields.{BeginsFile, each_push}
use Rattle.segment_file.specs.Reading.{BeginsCounted, Stopped}
use Rattle.segment_file.proofs.ReadAnswers.{weaker}
use Rattle.segment_file.proofs.ReadDecoded.{bytes_left, bytes_spell, stopped_answer}
use Rattle.segment_file.proofs.ReadFiles.{file_at_pushes}
use Rattle.segment_file.proofs.decoding.decode.Goals as goal

pub returns-in_err-lo : goal.returns-in_err-lo
returns-in_err-lo c = record {
  read =
      stopped_answer c.args.bytes.now c.new-reader.result.cursor c.from_residual.result c.in_err-lo.field-0.0 c.new-reader.ensures.rest c.new-reader.ensures.at
      c.from_residual.ensures.1 c.in_err-lo.ensures;
}

pub returns-in_err-pushes : goal.returns-in_err-pushes
returns-in_err-pushes c =
    let from = c.new-reader.result.cursor in
    let middle = c.numbers.new.self.cursor in
    let lo = c.in_ok-lo.lo in
    let hi = c.in_ok-lo.hi in
    let refused = c.in_err-pushes.field-0.0 in
    record {
      read =
          stopped_answer c.args.bytes.now from c.from_residual-in_err-pushes.result refused c.new-reader.ensures.rest c.new-reader.ensures.at c.from_residual-in_err-pushes.ensures.1
          (weaker (Stopped (BeginsCounted (hi - lo) each_push) middle) (Stopped BeginsFile from) refused
          (λ fault s. file_at_pushes mark_of_objects lo hi from middle fault c.in_ok-lo.ensures.1 s) c.in_err-pushes.ensures);
    }

pub returns-then-has_more : goal.returns-then-has_more
returns-then-has_more c =
    record {
      read =
          rw (c.form.ensures, c.at.ensures)
          (bytes_left c.args.bytes.now c.in_ok-lo.lo c.in_ok-lo.hi (map push_said c.in_ok-pushes.pushes.items) c.new-reader.result.cursor c.numbers.new.self.cursor c.pushes.new.self.cursor
          c.new-reader.ensures.rest c.new-reader.ensures.at c.in_ok-lo.ensures.1 c.in_ok-pushes.ensures c.if-has_more.ensures);
    }

pub returns : goal.returns
returns c = record {
  read =
      bytes_spell c.args.bytes.now c.in_ok-lo.lo c.in_ok-lo.hi c.in_ok-pushes.pushes.items c.new-reader.result.cursor c.numbers.new.self.cursor c.pushes.new.self.cursor
      c.new-reader.ensures.rest c.in_ok-lo.ensures.0 c.in_ok-lo.ensures.1 c.in_ok-pushes.ensures c.if-has_more.ensures c.from_pushes.result c.from_pushes.ensures.lo
      c.from_pushes.ensures.pushes;
}
