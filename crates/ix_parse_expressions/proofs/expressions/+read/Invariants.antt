use Rattle.ix_parse_expressions.proofs.expressions.+read.Given as goal

abbrev pub decreases-read : goal.decreases-read
decreases-read l = l.left
