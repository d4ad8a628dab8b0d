use Rattle.std.proofs.Common.{◌≡◌, ◌++◌, OnOk, ◌∙◌, ap, subst}
use Rattle.wire_proto.specs.Writing.{bytes_field}
use Rattle.pprof_writer.specs.Fields.{Number, Part}
use Rattle.pprof_writer.specs.Written.{written_line, written_location}
use Rattle.pprof_writer.proofs.WriterLemmas.{one, two}
use Rattle.pprof_writer.proofs.writer.put_location.Goals as goal

pub returns : goal.returns
unfolding written_location written_line
returns c =
    let line = written_line c.args.id in
    let is : c.deref.result.now ≡ line = c.deref.ensures.value ∙ one (Number 1 c.args.id) c.clear.new.self.items c.put_some.new.out.items c.clear.ensures.items c.in_ok-put_some.ensures in
    subst (λ bytes. OnOk c.put_bytes-2.result (c.put_bytes-2.new.out.items ≡ c.args.out.now.items ++ bytes_field 4 bytes))
    (c.deref-2.ensures.value
    ∙ two (Number 1 c.args.id) (Part 4 line) c.clear-2.new.self.items c.put_some-2.new.out.items c.put_bytes.new.out.items c.clear-2.ensures.items c.in_ok-put_some-2.ensures
    (c.in_ok-put_bytes.ensures.bytes ∙ ap (λ bytes. c.put_some-2.new.out.items ++ bytes_field 4 bytes) is))
    c.put_bytes-2.ensures.bytes
