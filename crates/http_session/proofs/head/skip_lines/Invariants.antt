use Rattle.std.proofs.Common.{◌≡◌, length}
use Rattle.http_session.specs.Heads.{after_lines}
use Rattle.http_session.proofs.head.skip_lines.Given as goal

abbrev pub invariant-loop-rest : goal.invariant-loop-rest
invariant-loop-rest l = after_lines l.rest ≡ after_lines l.bytes

abbrev pub decreases-loop-rest : goal.decreases-loop-rest
decreases-loop-rest l = length l.rest
