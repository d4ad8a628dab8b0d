use Rattle.shared_store.specs.Cursors.{IsOn}
use Rattle.shared_store.proofs.tests.read_on.Given as goal

abbrev pub invariant-loop : goal.invariant-loop
invariant-loop g l = IsOn l.pass.list l.cursor
