use Rattle.std.proofs.Common.{◌≡◌, ◌≤◌, length}
use Rattle.ix_grammar.specs.ClassGrammar as nodes
use Rattle.ix_grammar_rules.specs.ClassRules as spec
use Rattle.ix_grammar_rules.specs.ListRules.{next_inside}
use Rattle.ix_grammar_rules.specs.Rule.{run, loop}
use Rattle.ix_grammar_rules.specs.SourceRules.{parts}
use Rattle.ix_grammar_rules.specs.StmtRules.{block_statement}
use Rattle.ix_parser.proofs.bodies.statements.Given as goal

abbrev pub invariant-reading : goal.invariant-reading
invariant-reading l = record {
  leads : run (spec.statements parts l.left) l.initial.cursor ≡ run (loop (next_inside (block_statement l.left) nodes.with_stmt) l.found) l.cursor;
  no_longer : length l.cursor ≤ length l.initial.cursor;
  fits : l.found.height ≤ l.left;
}

abbrev pub decreases-reading : goal.decreases-reading
decreases-reading l = length l.cursor
