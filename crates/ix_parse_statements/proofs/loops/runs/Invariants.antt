use Rattle.std.proofs.Common.{◌≡◌, ◌≤◌, ◌+◌, ◌-◌, length}
use Rattle.ix_grammar_rules.specs.ExprRules.{statement_expr as the_expr}
use Rattle.ix_grammar_rules.specs.ListRules.{more_of}
use Rattle.ix_grammar_rules.specs.Rule.{run}
use Rattle.ix_grammar.specs.StmtGrammar as nodes
use Rattle.ix_parse_statements.proofs.loops.runs.Given as goal

abbrev pub invariant-reading : goal.invariant-reading
invariant-reading l = record {
  leads : run (more_of (the_expr (l.left - 2)) nodes.with_run (nodes.one_run l.fn.first)) l.fn.cursor ≡ run (more_of (the_expr (l.left - 2)) nodes.with_run l.found) l.cursor;
  no_longer : length l.cursor ≤ length l.fn.cursor;
  fits : l.found.height + 1 ≤ l.left;
}

abbrev pub decreases-reading : goal.decreases-reading
decreases-reading l = length l.cursor
