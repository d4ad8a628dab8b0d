use Rattle.std.proofs.Common.{◌++◌, ◌+◌, ◌∙◌, ap, refl, sym}
use Rattle.std.specs.List.{range_with_len}
use Rattle.pprof_writer.specs.Fields.{Part, message}
use Rattle.pprof_writer.specs.Written.{fields_with, written_location}
use Rattle.pprof_writer.proofs.WriterLemmas.{locations-more, pushed}
use Rattle.pprof_writer.proofs.writer.put_locations.Goals as goal

pub loop-at-preserved : goal.loop-at-preserved
loop-at-preserved c =
    let at = c.loop-at.at in
    pushed c.args.out.now.items c.loop-at.out.items c.put_location.new.out.items (fields_with 4 written_location (range_with_len 1 at)) (Part 4 (written_location (at + 1)))
    c.loop-at.invariant c.in_ok-put_location.ensures
    ∙ ap (λ fields. c.args.out.now.items ++ message fields) (sym (locations-more at (at + 1) refl))
