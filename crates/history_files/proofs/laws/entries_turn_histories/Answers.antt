use Rattle.history_files.proofs.HeldLemmas.{becomes_turns, push_turns}
use Rattle.history_files.proofs.laws.entries_turn_histories.Goals as goal

pub returns-clause-pushes : goal.returns-clause-pushes
returns-clause-pushes c = push_turns

pub returns-clause-runs : goal.returns-clause-runs
returns-clause-runs c = becomes_turns
