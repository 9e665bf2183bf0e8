use Rattle.std.proofs.Common.{◌≡◌, ◌≤◌, length}
use Rattle.ix_grammar_rules.specs.ClassRules as spec
use Rattle.ix_grammar_rules.specs.Rule.{run}
use Rattle.ix_parser.proofs.class_rules.class_words.Given as goal

abbrev pub invariant-reading : goal.invariant-reading
invariant-reading l = record {
  leads : run (spec.class_words l.fn.first) l.initial.cursor ≡ run (spec.class_words l.start) l.cursor;
  no_longer : length l.cursor ≤ length l.initial.cursor;
}

abbrev pub decreases-reading : goal.decreases-reading
decreases-reading l = length l.cursor
