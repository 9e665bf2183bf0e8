use Rattle.ix_check.proofs.whole.check_program.Given as goal

abbrev pub ghosts-check_with : goal.ghosts-check_with
ghosts-check_with a = record { name = a.blank.name; parts = a.blank.parts }
