use Rattle.history_pass.proofs.tests.seen.Given as goal

abbrev pub ghosts-seen_as : goal.ghosts-seen_as
ghosts-seen_as a = record { spine = a.blank }
