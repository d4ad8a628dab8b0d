use Rattle.std.proofs.Common.{◌++◌, ◌+◌, ◌∙◌, ap, refl, sym, take, arith}
use Rattle.std.specs.Prelude.{slice_index_or}
use Rattle.pprof_writer.specs.Fields.{Part, message}
use Rattle.pprof_writer.specs.Written.{written_function}
use Rattle.pprof_writer.proofs.WriterLemmas.{functions, functions-more, pushed}
use Rattle.pprof_writer.proofs.writer.put_functions.Goals as goal

pub loop-at-preserved : goal.loop-at-preserved
loop-at-preserved c =
    let at = c.loop-at.at in
    let places = c.args.places.now in
    pushed c.args.out.now.items c.loop-at.out.items c.put_function.new.out.items (functions (take at places)) (Part 5 (written_function (at + 1, slice_index_or places at 0)))
    c.loop-at.invariant c.in_ok-put_function.ensures
    ∙ ap (λ fields. c.args.out.now.items ++ message fields) (sym (functions-more places at (at + 1) (slice_index_or places at 0) (omega arith) refl refl))
