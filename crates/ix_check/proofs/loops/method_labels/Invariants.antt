use Rattle.ix_check.proofs.loops.method_labels.Given as goal

abbrev pub ghosts-labels_with : goal.ghosts-labels_with
ghosts-labels_with a = record { name = a.blank.name; parts = a.blank.parts }
