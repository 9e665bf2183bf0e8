use Rattle.std.proofs.Common.{◌≡◌, ◌≤◌, length}
use Rattle.ix_grammar.specs.ClassGrammar as nodes
use Rattle.ix_grammar_rules.specs.ClassRules as spec
use Rattle.ix_grammar_rules.specs.Rule.{run, loop}
use Rattle.ix_grammar_rules.specs.SourceRules.{parts}
use Rattle.ix_parser.proofs.class_rules.classes.Given as goal

abbrev pub invariant-reading : goal.invariant-reading
invariant-reading l = record {
  leads : run (loop (spec.next_class parts l.left) nodes.no_classes) l.initial.cursor ≡ run (loop (spec.next_class parts l.left) l.found) l.cursor;
  no_longer : length l.cursor ≤ length l.initial.cursor;
  fits : l.found.height ≤ l.left;
}

abbrev pub decreases-reading : goal.decreases-reading
decreases-reading l = length l.cursor
