use Rattle.ix_parse_expressions.proofs.grammar.Grammar.+level.Given as goal

abbrev pub decreases-level : goal.decreases-level
decreases-level g l = l.levels
