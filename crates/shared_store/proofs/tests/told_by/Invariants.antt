use Rattle.shared_store.specs.Holds.{run_over}
use Rattle.shared_store.proofs.tests.told_by.Given as goal

abbrev pub ghosts-told_as-J-Naming : goal.ghosts-told_as-J-Naming
ghosts-told_as-J-Naming a = record { spine = a.blank }

abbrev pub ghosts-told_as-J-Names : goal.ghosts-told_as-J-Names
ghosts-told_as-J-Names a = record { run = run_over a.store }
