use Rattle.std.proofs.Common.{[], ◌∷◌, sym, ap, ◌∙◌}
use Rattle.wire_proto.specs.Message.{Message}
use Rattle.wire_proto.specs.Reading.{fields_of}
use Rattle.pprof_message.specs.Broken.{in_pprof}
use Rattle.pprof_message.specs.Kept.{Kept, kept, kept_with}
use Rattle.pprof_message.proofs.BrokenLemmas.{after_first}
use Rattle.pprof_message.proofs.KeptLemmas.{kept_with-append}
use Rattle.pprof_message.proofs.reader.read_fields.Goals as goal

pub loop-found-preserved : goal.loop-found-preserved
loop-found-preserved c =
    let now : Message = fields_of c.loop-found.fields.left c.loop-found.fields.at in
    let rest : Message = fields_of c.next_found.new.fields.left c.next_found.new.fields.at in
    let first = rw c.in-Some.is at c.in_ok-found.ensures.next in
    let before : Kept = kept c.loop-found.gathered in
    record {
      broken = sym (after_first in_pprof now rest c.in-Some.found first c.in_ok-take_field.ensures.0) ∙ c.loop-found.invariant.broken;
      gathered =
          ap (λ (k : Kept). kept_with k rest.fields) c.in_ok-take_field.ensures.1
          ∙ kept_with-append before (c.in-Some.found ∷ []) rest.fields
          ∙ sym (ap (λ (m : Message). kept_with before m.fields) first) ∙ c.loop-found.invariant.gathered;
    }
