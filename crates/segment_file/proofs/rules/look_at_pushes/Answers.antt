use Rattle.std.proofs.Common.{arith}
use Rattle.segment_file.specs.Objects.{IsPush}
use Rattle.segment_file.proofs.EncodeLemmas.{known_all, known_next}
use Rattle.segment_file.proofs.rules.look_at_pushes.Goals as goal

pub loop-push-preserved : goal.loop-push-preserved
loop-push-preserved c =
    record {
      rules = known_next IsPush c.args.pushes.now c.loop-push.push-index c.push-item.result (omega arith) c.push-item.is c.look_at_push.ensures c.loop-push.invariant.rules;
    }

pub returns : goal.returns
returns c = known_all IsPush c.args.pushes.now c.loop-push.push-index (omega arith) c.loop-push.invariant.rules
