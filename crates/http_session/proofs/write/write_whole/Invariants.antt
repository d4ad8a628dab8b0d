use Rattle.std.proofs.Common.{◌≡◌, true, List, ℕ, ◌++◌, length}
use Rattle.link_trait.specs.Link.{Goes, Gave}
use Rattle.http_session.proofs.write.write_whole.Given as goal

abbrev pub invariant-loop-rest : goal.invariant-loop-rest
invariant-loop-rest g l = record {
  opened : g.L.Link.is_open l.link ≡ true;
  quiet : g.L.Link.faults l.link ≡ g.L.Link.faults l.fn.link;
  told : (piece : List ℕ) × (l.bytes ≡ piece ++ l.rest) × Goes (Gave piece) (g.L.Link.told l.fn.link) (g.L.Link.told l.link);
}

abbrev pub decreases-loop-rest : goal.decreases-loop-rest
decreases-loop-rest g l = length l.rest
