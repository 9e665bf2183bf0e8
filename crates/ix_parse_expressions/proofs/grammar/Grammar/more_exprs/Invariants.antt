use Rattle.std.proofs.Common.{◌≡◌, ◌≤◌, length}
use Rattle.ix_grammar.specs.ExprNodes as nodes
use Rattle.ix_grammar_rules.specs.ExprRules as spec
use Rattle.ix_grammar_rules.specs.Rule.{loop, run}
use Rattle.ix_parse_expressions.proofs.grammar.Grammar.more_exprs.Given as goal

abbrev pub invariant-reading : goal.invariant-reading
invariant-reading g l = record {
  leads : run (loop (spec.more_exprs (spec.expr l.height)) (nodes.with_expr nodes.no_exprs l.fn.first)) l.fn.cursor ≡ run (loop (spec.more_exprs (spec.expr l.height)) l.several) l.cursor;
  no_longer : length l.cursor ≤ length l.fn.cursor;
  fits : l.several.height ≤ l.height;
}

abbrev pub decreases-reading : goal.decreases-reading
decreases-reading g l = length l.cursor
