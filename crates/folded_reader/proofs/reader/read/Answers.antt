use Rattle.wire_forms.proofs.GzipLemmas.{not_begun}
use Rattle.folded_reader.proofs.ReaderLemmas.{read_text}
use Rattle.folded_reader.proofs.reader.read.Goals as goal

pub returns-in-Ok : goal.returns-in-Ok
returns-in-Ok c =
    read_text c.args.form c.args.bytes.now c.sums_of_text.result
    record {
      plain = not_begun c.args.bytes.now _ c.begins_as_gzip.ensures c.if-begins_as_gzip.false;
      utf8 = c.in-Ok.ensures.cases.1;
    }
    (rw c.in-Ok.ensures.cases.0 at c.sums_of_text.ensures)
