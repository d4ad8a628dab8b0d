use Rattle.std.proofs.Common.{arith}
use Rattle.segment_file.specs.Bytes.{push_bytes}
use Rattle.segment_file.specs.Objects.{IsPush}
use Rattle.segment_file.proofs.EncodeLemmas.{known_next, written_next}
use Rattle.segment_file.proofs.encode.put_pushes.Goals as goal

pub loop-push-preserved : goal.loop-push-preserved
loop-push-preserved c =
    let at = c.loop-push.push-index in
    let pushes = c.args.pushes.now in
    let push = c.push-item.result in
    record {
      bytes = written_next push_bytes pushes at push c.loop-push.out.items c.put_push.new.out.items _ (omega arith) c.push-item.is c.loop-push.invariant.bytes c.in_ok-put_push.ensures.bytes;
      rules = known_next IsPush pushes at push (omega arith) c.push-item.is c.in_ok-put_push.ensures.rules c.loop-push.invariant.rules;
    }
