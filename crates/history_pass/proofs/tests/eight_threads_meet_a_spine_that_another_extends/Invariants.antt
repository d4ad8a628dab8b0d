use Rattle.history_pass.proofs.tests.eight_threads_meet_a_spine_that_another_extends.Given as goal

abbrev pub ghosts-arrive_as : goal.ghosts-arrive_as
ghosts-arrive_as g a = record { spine = a.blank }
