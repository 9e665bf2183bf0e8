use Rattle.std.proofs.Common.{◌≡◌, ◌≤◌, ◌+◌, length}
use Rattle.ix_grammar.specs.ClassGrammar.{no_stmts as none, with_stmt as one_more}
use Rattle.ix_grammar_rules.specs.ListRules.{braces_of}
use Rattle.ix_grammar_rules.specs.Rule.{run}
use Rattle.ix_grammar_rules.specs.StmtRules as spec
use Rattle.ix_parse_statements.proofs.statement_parts.Statements.statements.Given as goal

abbrev pub invariant-reading : goal.invariant-reading
invariant-reading g l = record {
  leads : run (braces_of (spec.stmts_below l.self.left).block one_more none) l.fn.cursor ≡ run (braces_of (spec.stmts_below l.self.left).block one_more l.found) l.cursor;
  no_longer : length l.cursor ≤ length l.fn.cursor;
  fits : l.found.height + 1 ≤ l.self.left;
}

abbrev pub decreases-reading : goal.decreases-reading
decreases-reading g l = length l.cursor
