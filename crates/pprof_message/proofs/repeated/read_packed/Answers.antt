use Rattle.std.proofs.Common.{◌<◌, ◌∙◌, length, map, refl, sym, ap}
use Rattle.wire_proto.proofs.Messages.{some_from}
use Rattle.wire_proto.proofs.FieldReads.{IsBytes-behind}
use Rattle.pprof_message.specs.Fields.{Packed, packed}
use Rattle.pprof_message.specs.Runs.{begun_with}
use Rattle.pprof_message.proofs.PackedLemmas.{packed-none, packed-number, packed-broken, begun_more, begun_same}
use Rattle.pprof_message.proofs.repeated.read_packed.Goals as goal

pub loop-rest-preserved : goal.loop-rest-preserved
loop-rest-preserved g c =
    let rest = c.loop-rest.rest.now in
    let h = c.in-Ok.ensures.reads in
    let is = packed-number rest c.in-Ok.varint c.in-Ok.more.now c.loop-rest.invariant.bytes h in
    record {
      bytes = IsBytes-behind h.spelling c.in-Ok.more.now rest h.parts c.loop-rest.invariant.bytes;
      whole = sym (ap (λ (p : Packed). p.is_whole) is) ∙ c.loop-rest.invariant.whole;
      gathered =
          begun_more g.T.Number.of_varint c.loop-rest.runs c.push.new.self c.in-Ok.varint (packed c.in-Ok.more.now).numbers c.from_varint.result c.from_varint.ensures c.in_ok-push-in-Ok.ensures
          ∙ sym (ap (λ (p : Packed). begun_with c.loop-rest.runs (map g.T.Number.of_varint p.numbers)) is) ∙ c.loop-rest.invariant.gathered;
    }

pub returns-in-Err : goal.returns-in-Err
returns-in-Err g c =
    let rest = c.loop-rest.rest.now in
    let some : 0 < length rest = some_from _ (sym c.is_empty.ensures ∙ c.loop-rest-test.true) in
    let broken = packed-broken rest c.args.at c.in-Err.field-0 c.loop-rest.invariant.bytes some ((c.in-Err.ensures.refuses c.in-Err.field-0).0 refl) in
    rw (← c.loop-rest.invariant.whole, broken) refl

pub returns : goal.returns
returns g c =
    let none = packed-none c.loop-rest.rest.now (sym c.is_empty.ensures ∙ c.loop-rest-test.false) in
    (rw (← c.loop-rest.invariant.whole, none) refl, sym (begun_same c.loop-rest.runs) ∙ sym (ap (λ (p : Packed). begun_with c.loop-rest.runs (map g.T.Number.of_varint p.numbers)) none) ∙ c.loop-rest.invariant.gathered)
