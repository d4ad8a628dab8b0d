use Rattle.std.proofs.Common.{◌≡◌, ◌+◌, true, false}
use Rattle.link_trait.specs.Link.{Goes}
use Rattle.push_history.specs.History.{HasBoundedTotals}
use Rattle.request_meaning.specs.Facts.{facts_of}
use Rattle.pyro_server.specs.Steps.{SoFar}
use Rattle.pyro_server.proofs.session.serve.Given as goal

abbrev pub invariant-loop-number : goal.invariant-loop-number
invariant-loop-number g l = record {
  bounded : HasBoundedTotals l.history.items;
  reading : l.reader.ended ≡ false;
  number : l.reader.given + 1 ≡ l.number;
  served : Goes (SoFar (facts_of l.config) l.reader l.history.items) (g.L.Link.told l.fn.stdio) (g.L.Link.told l.stdio);
  opened : g.L.Link.is_open l.stdio ≡ true;
  quiet : g.L.Link.faults l.stdio ≡ g.L.Link.faults l.fn.stdio;
}
