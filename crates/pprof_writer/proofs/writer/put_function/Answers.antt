use Rattle.std.proofs.Common.{◌≡◌, ◌++◌, OnOk, ◌∙◌, subst}
use Rattle.wire_proto.specs.Writing.{bytes_field}
use Rattle.pprof_writer.specs.Fields.{Number}
use Rattle.pprof_writer.specs.Written.{written_function}
use Rattle.pprof_writer.proofs.WriterLemmas.{two}
use Rattle.pprof_writer.proofs.writer.put_function.Goals as goal

pub returns : goal.returns
unfolding written_function
returns c =
    subst (λ bytes. OnOk c.put_bytes.result (c.put_bytes.new.out.items ≡ c.args.out.now.items ++ bytes_field 5 bytes))
    (c.deref.ensures.value
    ∙ two (Number 1 c.args.id) (Number 2 c.args.place) c.clear.new.self.items c.put_some.new.out.items c.put_some-2.new.out.items c.clear.ensures.items c.in_ok-put_some.ensures c.in_ok-put_some-2.ensures)
    c.put_bytes.ensures.bytes
