use Rattle.std.proofs.Common.{◌≡◌, [], ◌∙◌, ap, fold, length, sym, take, arith}
use Rattle.std.specs.Prelude.{slice_index_or}
use Rattle.std.proofs.lemmas.List.{get_or_default}
use Rattle.pprof_writer.specs.Tables.{is_among, type_texts, with_text}
use Rattle.pprof_writer.proofs.TextLemmas.{Looked, looked-first, places-more}
use Rattle.pprof_writer.proofs.names.texts_of.Goals as goal

looked : (c : goal.After-texts-in-loop-frame-1)
    → Looked (fold with_text (type_texts c.args.kind.now) (take c.loop-frame.frame-index c.args.frames.now)) (length (type_texts c.args.kind.now)) (slice_index_or c.args.frames.now c.loop-frame.frame-index [])
looked c = looked-first (type_texts c.args.kind.now) c.args.frames.now c.loop-frame.frame-index c.requires c.loop-frame-test.true

pub add_text-requires-clause-first : goal.add_text-requires-clause-first
add_text-requires-clause-first c =
    let within = (looked c).within in
    let same = ap length c.loop-frame.invariant.texts in
    let first = c.loop-frame.invariant.first in
    omega arith

pub add_text-requires-clause-others : goal.add_text-requires-clause-others
add_text-requires-clause-others c =
    let frame : c.frame-item.result ≡ slice_index_or c.args.frames.now c.loop-frame.frame-index [] =
    c.frame-item.is ∙ get_or_default c.args.frames.now c.loop-frame.frame-index c.frame-item.result [] c.loop-frame-test.true in
    let texts = c.loop-frame.invariant.texts in
    let first = c.loop-frame.invariant.first in
    (λ j. is_among (texts j) (frame j)) ∙ (looked c).others ∙ (λ j. is_among (take (sym first j) (sym texts j)) (sym frame j))

pub loop-frame-preserved : goal.loop-frame-preserved
loop-frame-preserved c =
    let more = places-more (type_texts c.args.kind.now) c.args.frames.now c.loop-frame.frame-index c.loop-frame.texts.items c.add_text.new.texts.items c.loop-frame.places.items c.push.new.self.items
    c.in_ok-add_text.field-0 c.frame-item.result c.loop-frame-test.true
    (c.frame-item.is ∙ get_or_default c.args.frames.now c.loop-frame.frame-index c.frame-item.result [] c.loop-frame-test.true)
    c.loop-frame.invariant.texts c.loop-frame.invariant.places c.in_ok-add_text.ensures.texts c.in_ok-add_text.ensures.place c.in_ok-push.ensures.items in
    record { texts = more.0; places = more.1; first = c.loop-frame.invariant.first }
