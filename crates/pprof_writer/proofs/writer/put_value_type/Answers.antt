use Rattle.std.proofs.Common.{◌≡◌, ◌++◌, OnOk, ◌∙◌, ap, subst}
use Rattle.wire_proto.specs.Writing.{bytes_field}
use Rattle.pprof_writer.specs.Fields.{Number, spelled}
use Rattle.pprof_writer.specs.Tables.{place_of}
use Rattle.pprof_writer.specs.Written.{value_type}
use Rattle.pprof_writer.proofs.WriterLemmas.{two}
use Rattle.pprof_writer.proofs.writer.put_value_type.Goals as goal

pub returns : goal.returns
unfolding value_type
returns c =
    subst (λ bytes. OnOk c.put_bytes.result (c.put_bytes.new.out.items ≡ c.args.out.now.items ++ bytes_field c.args.number bytes))
    (c.deref.ensures.value
    ∙ two (Number 1 (place_of c.args.texts.now c.args.kind.now)) (Number 2 (place_of c.args.texts.now c.args.unit.now))
    c.new-places.result.items c.put_some.new.out.items c.put_some-2.new.out.items c.new-places.ensures.items
    (c.in_ok-put_some.ensures ∙ ap (λ n. c.new-places.result.items ++ spelled (Number 1 n)) c.place_of.ensures)
    (c.in_ok-put_some-2.ensures ∙ ap (λ n. c.put_some.new.out.items ++ spelled (Number 2 n)) c.place_of-2.ensures))
    c.put_bytes.ensures.bytes
