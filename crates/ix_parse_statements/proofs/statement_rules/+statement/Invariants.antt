use Rattle.ix_parse_statements.proofs.statement_rules.+statement.Given as goal

abbrev pub decreases-statement : goal.decreases-statement
decreases-statement l = l.left
