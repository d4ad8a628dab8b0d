use Rattle.std.proofs.Common.{◌≡◌, ◌<◌, ◌^◌, ◌++◌, [], ◌∷◌, ◌∙◌, ap, length, map, subst, sym, arith}
use Rattle.std.specs.List.{All, enumerate_from, range_with_len}
use Rattle.std.specs.Str.{IsUtf8}
use Rattle.pprof_writer.specs.Fields.{Part, message, spelled}
use Rattle.pprof_writer.specs.Tables.{frames_in, place_of, texts_of}
use Rattle.pprof_writer.specs.Written.{fields_with, value_type, written_function, written_location, written_pprof, written_sample}
use Rattle.pprof_writer.proofs.FrameLemmas.{AllAmong, frames-among}
use Rattle.pprof_writer.proofs.SeenLemmas.{AreSeen, seen-back, seen-held, seen-readable}
use Rattle.pprof_writer.proofs.WriterLemmas.{joins, joins-one}
use Rattle.pprof_writer.proofs.writer.write_pprof.Goals as goal

pub put_samples-requires-clause-there : goal.put_samples-requires-clause-there
put_samples-requires-clause-there c =
    subst (λ frames. AllAmong frames c.args.values.now) (sym (c.deref-3.ensures.value ∙ c.in_ok-frames.ensures.frames)) (frames-among c.args.values.now)

pub returns-clause-bytes : goal.returns-clause-bytes
unfolding written_pprof
returns-clause-bytes c =
    let kind = c.args.kind.now in
    let sums = c.args.values.now in
    let frames = frames_in sums in
    let texts = texts_of kind frames in
    let given : c.deref.result.now ≡ frames = c.deref.ensures.value ∙ c.in_ok-frames.ensures.frames in
    let all : c.in_ok-texts.texts.items ≡ texts = c.in_ok-texts.ensures.texts ∙ ap (texts_of kind) given in
    let places : c.in_ok-texts.places.items ≡ map (place_of texts) frames = c.in_ok-texts.ensures.places ∙ ap (λ fs. map (place_of (texts_of kind fs)) fs) given in
    let again : c.deref-3.result.now ≡ frames = c.deref-3.ensures.value ∙ c.in_ok-frames.ensures.frames in
    let count : c.len.result ≡ length frames = (let same = ap length c.in_ok-frames.ensures.frames in let number = c.len.ensures in omega (arith, c.in_ok-frames.frames.ok.0)) in
    let first = Part 1 (value_type texts kind.sample_type kind.sample_unit) in
    let two = fields_with 2 (written_sample frames) sums in
    let four = fields_with 4 written_location (range_with_len 1 (length frames)) in
    let five = fields_with 5 written_function (enumerate_from 1 (map (place_of texts) frames)) in
    let six = fields_with 6 (λ text. text) texts in
    let last = Part 11 (value_type texts kind.period_type kind.period_unit) in
    let s1 = joins-one [] first c.new-out.result.items c.put_value_type.new.out.items c.new-out.ensures.items
    (c.in_ok-put_value_type.ensures ∙ ap (λ ts. c.new-out.result.items ++ spelled (Part 1 (value_type ts kind.sample_type kind.sample_unit))) (c.deref-2.ensures.value ∙ all)) in
    let s2 = joins (first ∷ []) two c.put_value_type.new.out.items c.put_samples.new.out.items s1
    (c.in_ok-put_samples.ensures.written ∙ ap (λ fs. c.put_value_type.new.out.items ++ message (fields_with 2 (written_sample fs) sums)) again) in
    let s4 = joins ((first ∷ []) ++ two) four c.put_samples.new.out.items c.put_locations.new.out.items s2
    (c.in_ok-put_locations.ensures ∙ ap (λ n. c.put_samples.new.out.items ++ message (fields_with 4 written_location (range_with_len 1 n))) count) in
    let s5 = joins ((first ∷ []) ++ two ++ four) five c.put_locations.new.out.items c.put_functions.new.out.items s4
    (c.in_ok-put_functions.ensures ∙ ap (λ ps. c.put_locations.new.out.items ++ message (fields_with 5 written_function (enumerate_from 1 ps))) (c.deref-4.ensures.value ∙ places)) in
    let s6 = joins ((first ∷ []) ++ two ++ four ++ five) six c.put_functions.new.out.items c.put_texts.new.out.items s5
    (c.in_ok-put_texts.ensures.written ∙ ap (λ ts. c.put_functions.new.out.items ++ message (fields_with 6 (λ text. text) ts)) (c.deref-5.ensures.value ∙ all)) in
    joins-one ((first ∷ []) ++ two ++ four ++ five ++ six) last c.put_texts.new.out.items c.put_value_type-2.new.out.items s6
    (c.in_ok-put_value_type-2.ensures ∙ ap (λ ts. c.put_texts.new.out.items ++ spelled (Part 11 (value_type ts kind.period_type kind.period_unit))) (c.deref-6.ensures.value ∙ all))

seen : (c : goal.After-drop-frames-2) → AreSeen c.args.kind.now c.args.values.now
seen c =
    let kind = c.args.kind.now in
    let sums = c.args.values.now in
    let frames = frames_in sums in
    let found : c.in_ok-frames.frames.items ≡ frames = c.in_ok-frames.ensures.frames in
    let given : c.deref.result.now ≡ frames = c.deref.ensures.value ∙ found in
    let all : c.in_ok-texts.texts.items ≡ texts_of kind frames = c.in_ok-texts.ensures.texts ∙ ap (texts_of kind) given in
    let written : c.deref-5.result.now ≡ texts_of kind frames = c.deref-5.ensures.value ∙ all in
    record {
      are_sums = c.in_ok-put_samples.ensures.sums;
      stacks = c.in_ok-put_samples.ensures.stacks;
      utf8 = subst (All IsUtf8) written c.in_ok-put_texts.ensures.utf8;
      short = subst (All (λ text. length text < 2 ^ 64)) written c.in_ok-put_texts.ensures.short;
      few_frames = (let same = ap length found in omega (arith, c.in_ok-frames.frames.ok.0, c.in_ok-frames.frames.ok.1, c.in_ok-frames.frames.small));
      few_texts = (let same = ap length all in omega (arith, c.in_ok-texts.texts.ok.0, c.in_ok-texts.texts.ok.1, c.in_ok-texts.texts.small));
    }

pub returns-clause-held : goal.returns-clause-held
returns-clause-held c = seen-held c.args.kind.now c.args.values.now (seen c)

pub returns-clause-readable : goal.returns-clause-readable
returns-clause-readable c = seen-readable c.args.kind.now c.args.values.now (seen c)

pub returns-clause-read_back : goal.returns-clause-read_back
returns-clause-read_back c = seen-back c.args.kind.now c.args.values.now (seen c) c.put_value_type-2.new.out.items (returns-clause-bytes c)
