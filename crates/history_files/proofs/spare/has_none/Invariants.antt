use Rattle.std.proofs.Common.{◌≡◌, drop}
use Rattle.history_files.specs.Standing.{is_spare}
use Rattle.history_files.proofs.spare.has_none.Given as goal

abbrev pub invariant-loop-entry : goal.invariant-loop-entry
invariant-loop-entry l = is_spare l.id (drop l.entry-index l.entries) ≡ is_spare l.id l.entries
