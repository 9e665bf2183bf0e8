use Rattle.ix_check.proofs.alone.method_errors.Given as goal

abbrev pub ghosts-errors_with : goal.ghosts-errors_with
ghosts-errors_with a = record { name = a.blank.name; parts = a.blank.parts }
