use Rattle.std.proofs.Common.{ap, ◌∙◌}
use Rattle.wire_proto.specs.Reading.{fields_of}
use Rattle.pprof_message.specs.Kept.{Kept, kept_with}
use Rattle.pprof_message.proofs.KeptLemmas.{IsWhole, whole_kept}
use Rattle.pprof_message.proofs.reader.read_message.Goals as goal
use Rattle.pprof_message.proofs.reader.read_message.Goals.{In_ok-read_fields}

whole : (c : In_ok-read_fields) → IsWhole c.read_fields.new.gathered (fields_of c.args.bytes.now 0).fields
whole c =
    let fields = (fields_of c.args.bytes.now 0).fields in
    let read = rw c.whole.ensures at c.in_ok-read_fields.ensures in
    whole_kept c.read_fields.new.gathered fields (read.1 ∙ ap (λ (k : Kept). kept_with k fields) c.new-gathered.ensures)

pub new-requires : goal.new-requires
new-requires c = (whole c).even

pub returns-clause-read : goal.returns-clause-read
returns-clause-read c =
    let read = rw c.whole.ensures at c.in_ok-read_fields.ensures in
    (read.0, c.new.ensures ∙ (whole (goal.at.returns-clause-read c).In_ok-read_fields).pprof)
