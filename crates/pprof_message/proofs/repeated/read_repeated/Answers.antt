use Rattle.std.proofs.Common.{◌≡◌, None, refl, sym, ◌∙◌}
use Rattle.pprof_message.specs.Fields.{part_in}
use Rattle.pprof_message.proofs.ContentLemmas.{with_varint, with_neither}
use Rattle.pprof_message.proofs.PackedLemmas.{begun_same}
use Rattle.pprof_message.proofs.repeated.read_repeated.Goals as goal

pub returns-in-Some : goal.returns-in-Some
returns-in-Some g c =
    let f = c.args.found.now in
    let holds = with_varint f.end f.value c.in-Some.varint (sym c.varint.ensures ∙ c.in-Some.is) in
    (rw holds.1 refl, rw (holds.0, c.in_ok-push.ensures, c.from_varint.ensures) refl)

pub returns-in-None : goal.returns-in-None
returns-in-None g c =
    let f = c.args.found.now in
    let no_part : part_in f.end f.value ≡ None = sym c.part.ensures ∙ c.in-None.is in
    let holds = with_neither f.end f.value (sym c.varint.ensures ∙ c.in_default.is) no_part in
    (rw no_part refl, rw holds (sym (begun_same c.args.runs.now)))
