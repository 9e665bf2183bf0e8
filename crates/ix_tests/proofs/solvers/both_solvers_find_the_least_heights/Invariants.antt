use Rattle.ix_tests.proofs.solvers.both_solvers_find_the_least_heights.Given as goal

abbrev pub ghosts-counted : goal.ghosts-counted
ghosts-counted g a = record { name = a.blank.name; parts = a.blank.parts }
