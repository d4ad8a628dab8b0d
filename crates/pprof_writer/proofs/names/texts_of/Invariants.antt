use Rattle.std.proofs.Common.{◌≡◌, fold, length, map, take}
use Rattle.pprof_writer.specs.Tables.{place_of, type_texts, with_text}
use Rattle.pprof_writer.proofs.names.texts_of.Given as goal

abbrev pub invariant-loop-frame : goal.invariant-loop-frame
invariant-loop-frame l = record {
  texts : l.texts.items ≡ fold with_text (type_texts l.kind) (take l.frame-index l.frames);
  places : l.places.items ≡ map (place_of l.texts.items) (take l.frame-index l.frames);
  first : l.first ≡ length (type_texts l.kind);
}
