use Rattle.std.proofs.Common.{◌≡◌, ◌≤◌, ◌-◌, true, length, take}
use Rattle.link_trait.specs.Link.{Goes, Took}
use Rattle.http_session.proofs.reader.fill_rest.Given as goal

abbrev pub invariant-loop-filled : goal.invariant-loop-filled
invariant-loop-filled g l = record {
  opened : g.L.Link.is_open l.link ≡ true;
  quiet : g.L.Link.faults l.link ≡ g.L.Link.faults l.fn.link;
  fits : l.filled ≤ length l.rest;
  told : Goes (Took (take l.filled l.rest)) (g.L.Link.told l.fn.link) (g.L.Link.told l.link);
}

abbrev pub decreases-loop-filled : goal.decreases-loop-filled
decreases-loop-filled g l = length l.rest - l.filled
