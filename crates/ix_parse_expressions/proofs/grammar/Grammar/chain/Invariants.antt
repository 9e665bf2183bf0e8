use Rattle.std.proofs.Common.{◌≡◌, ◌<◌, ◌≤◌, length}
use Rattle.ix_grammar_rules.specs.ExprRules as spec
use Rattle.ix_grammar_rules.specs.Rule.{loop, run}
use Rattle.ix_parse_expressions.proofs.grammar.Grammar.chain.Given as goal

abbrev pub invariant-reading : goal.invariant-reading
invariant-reading g l = record {
  leads : run (loop (spec.further (spec.below l.self.left) l.aim l.self.left) l.fn.first) l.fn.cursor ≡ run (loop (spec.further (spec.below l.self.left) l.aim l.self.left) l.found) l.cursor;
  no_longer : length l.cursor ≤ length l.fn.cursor;
  fits : l.found.height ≤ l.self.left;
  some : 0 < l.found.height;
}

abbrev pub decreases-reading : goal.decreases-reading
decreases-reading g l = length l.cursor
