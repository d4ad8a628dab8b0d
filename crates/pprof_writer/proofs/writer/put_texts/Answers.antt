use Rattle.std.proofs.Common.{◌≡◌, ◌<◌, ◌^◌, [], ◌++◌, ◌∙◌, ap, length, subst, arith}
use Rattle.std.specs.Prelude.{slice_index_or}
use Rattle.std.specs.List.{All}
use Rattle.std.specs.Str.{IsUtf8}
use Rattle.std.proofs.lemmas.List.{get_or_default, take_all}
use Rattle.std.proofs.lemmas.List.Elements.{All-more}
use Rattle.wire_proto.specs.Writing.{bytes_field}
use Rattle.pprof_writer.proofs.WriterLemmas.{text_within, texts_more}
use Rattle.pprof_writer.proofs.writer.put_texts.Goals as goal

pub loop-text-preserved : goal.loop-text-preserved
loop-text-preserved c =
    let texts = c.args.texts.now in
    let at = c.loop-text.text-index in
    let within = c.loop-text-test.true in
    let text = slice_index_or texts at [] in
    let is : c.text-item.result ≡ text = c.text-item.is ∙ get_or_default texts at c.text-item.result [] within in
    let bytes : c.as_bytes.result.now ≡ text = c.as_bytes.ensures.value ∙ is in
    let grown : c.put_bytes.new.out.items ≡ c.loop-text.out.items ++ bytes_field 6 text =
    c.in_ok-put_bytes.ensures.bytes ∙ ap (λ t. c.loop-text.out.items ++ bytes_field 6 t) bytes in
    let long = text_within 6 text c.loop-text.out.items c.put_bytes.new.out.items grown in
    record {
      written = texts_more c.args.out.now.items c.loop-text.out.items c.put_bytes.new.out.items texts at within c.loop-text.invariant.written grown;
      utf8 = All-more IsUtf8 texts at [] within c.loop-text.invariant.utf8 (subst IsUtf8 is c.as_bytes.ensures.utf8);
      short = All-more (λ text. length text < 2 ^ 64) texts at [] within c.loop-text.invariant.short (omega (arith, c.put_bytes.new.out.ok.0, c.put_bytes.new.out.ok.1, c.put_bytes.new.out.small));
    }

pub returns-clause-utf8 : goal.returns-clause-utf8
returns-clause-utf8 c = subst (All IsUtf8) (take_all c.loop-text.text-index c.args.texts.now (omega arith)) c.loop-text.invariant.utf8
