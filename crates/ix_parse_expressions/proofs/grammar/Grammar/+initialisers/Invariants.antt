use Rattle.std.proofs.Common.{◌≡◌, ◌≤◌, ◌+◌, length}
use Rattle.ix_grammar_rules.specs.ExprRules as spec
use Rattle.ix_grammar_rules.specs.Rule.{run}
use Rattle.ix_parse_expressions.proofs.Entries.{inside}
use Rattle.ix_parse_expressions.proofs.grammar.Grammar.+initialisers.Given as goal

-- Entries are read behind their initialiser's brace, and each is an initialiser of the same height.
abbrev pub decreases-init : goal.decreases-init
decreases-init g l = l.height + l.height

abbrev pub decreases-items_within : goal.decreases-items_within
decreases-items_within g l = l.height + l.height + 1

abbrev pub invariant-items_within-reading : goal.invariant-items_within-reading
invariant-items_within-reading g l = record {
  leads : run (spec.items (spec.init l.height) l.fn.left) l.fn.cursor ≡ run (inside (spec.init l.height) l.entries) l.cursor;
  no_longer : length l.cursor ≤ length l.fn.cursor;
  fits : l.entries.height ≤ l.height;
}

abbrev pub decreases-items_within-reading : goal.decreases-items_within-reading
decreases-items_within-reading g l = length l.cursor
