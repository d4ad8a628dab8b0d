use Rattle.std.proofs.Common.{◌≡◌, ◌++◌, [], ◌∷◌, OnOk, ◌∙◌, ap, append-nil, map, reverse, subst, sym}
use Rattle.wire_proto.specs.Writing.{bytes_field, varint}
use Rattle.pprof_writer.specs.Fields.{Part}
use Rattle.pprof_writer.specs.Tables.{id_of}
use Rattle.pprof_writer.specs.Written.{packed, written_sample}
use Rattle.pprof_writer.proofs.WriterLemmas.{two}
use Rattle.pprof_writer.proofs.writer.put_sample.Goals as goal

pub returns-clause-written : goal.returns-clause-written
unfolding written_sample
returns-clause-written c =
    let ids = packed (map (id_of c.args.frames.now) (reverse c.args.stack.now)) in
    let first : c.deref.result.now ≡ ids =
    c.deref.ensures.value ∙ c.in_ok-put_ids.ensures ∙ ap (λ t. t ++ packed (map (id_of c.args.frames.now) (reverse c.frames.result.now))) c.clear.ensures.items
    ∙ ap (λ stack. packed (map (id_of c.args.frames.now) (reverse stack))) c.frames.ensures.value in
    let second : c.deref-2.result.now ≡ packed (c.args.value ∷ []) =
    c.deref-2.ensures.value ∙ c.in_ok-put_varint.ensures.bytes ∙ ap (λ t. t ++ varint c.args.value) c.clear-3.ensures.items ∙ sym (append-nil (varint c.args.value)) in
    subst (λ bytes. OnOk c.put_bytes-3.result (c.put_bytes-3.new.out.items ≡ c.args.out.now.items ++ bytes_field 2 bytes))
    (c.deref-3.ensures.value
    ∙ two (Part 1 ids) (Part 2 (packed (c.args.value ∷ []))) c.clear-2.new.self.items c.put_bytes.new.out.items c.put_bytes-2.new.out.items c.clear-2.ensures.items
    (c.in_ok-put_bytes.ensures.bytes ∙ ap (λ bytes. c.clear-2.new.self.items ++ bytes_field 1 bytes) first)
    (c.in_ok-put_bytes-2.ensures.bytes ∙ ap (λ bytes. c.put_bytes.new.out.items ++ bytes_field 2 bytes) second))
    c.put_bytes-3.ensures.bytes
