use Rattle.ix_check.proofs.parts.check_joined.Given as goal

abbrev pub ghosts-list_of_part : goal.ghosts-list_of_part
ghosts-list_of_part a = record { name = a.blank.name; parts = a.blank.parts }
