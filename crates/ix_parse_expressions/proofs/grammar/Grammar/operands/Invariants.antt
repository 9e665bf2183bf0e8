use Rattle.std.proofs.Common.{◌≡◌, ◌≤◌, length}
use Rattle.ix_grammar_rules.specs.ExprRules as spec
use Rattle.ix_grammar_rules.specs.Rule.{loop, run}
use Rattle.ix_parse_expressions.proofs.grammar.Grammar.operands.Given as goal

abbrev pub invariant-reading : goal.invariant-reading
invariant-reading g l = record {
  leads : run (loop (spec.operand (spec.below l.self.left) l.self.left l.level) l.fn.first) l.fn.cursor ≡ run (loop (spec.operand (spec.below l.self.left) l.self.left l.level) l.found) l.cursor;
  no_longer : length l.cursor ≤ length l.fn.cursor;
  fits : l.found.height ≤ l.self.left;
}

abbrev pub decreases-reading : goal.decreases-reading
decreases-reading g l = length l.cursor
