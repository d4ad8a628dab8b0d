use Rattle.std.proofs.Common.{map}
use Rattle.std.proofs.lemmas.Result.{err_from_is_err_and}
use Rattle.json_bodies.specs.PushRead.{series_of}
use Rattle.json_push.proofs.PushLemmas.{push_fault}
use Rattle.json_push.proofs.reader.read_push.Goals as goal

pub returns-in_err-profiles : goal.returns-in_err-profiles
returns-in_err-profiles c =
    let p = err_from_is_err_and c.from_residual.result c.from_residual.ensures.1 in
    rw (p.1, p.2)
    record {
      read = push_fault c.args.tenant c.args.body.now c.args.moment_ms c.in-Ok.object (map series_of c.in-Ok-of.said.series.items) _
          c.in-Ok.ensures.read c.in-Ok-of.ensures.read (rw c.deref.ensures.value at c.in_err-profiles.ensures);
    }
