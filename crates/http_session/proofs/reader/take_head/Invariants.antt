use Rattle.std.proofs.Common.{◌≡◌, ◌-◌, true, length}
use Rattle.link_trait.specs.Link.{Goes}
use Rattle.http_session.specs.Limits.{most_head_bytes}
use Rattle.http_session.specs.Pulled.{Pulled}
use Rattle.http_session.proofs.reader.take_head.Given as goal

abbrev pub invariant-loop-spans : goal.invariant-loop-spans
invariant-loop-spans g l = record {
  opened : g.L.Link.is_open l.link ≡ true;
  quiet : g.L.Link.faults l.link ≡ g.L.Link.faults l.fn.link;
  told : Goes (Pulled l.fn.buffer l.buffer) (g.L.Link.told l.fn.link) (g.L.Link.told l.link);
}

abbrev pub decreases-loop-spans : goal.decreases-loop-spans
decreases-loop-spans g l = most_head_bytes - length l.buffer
