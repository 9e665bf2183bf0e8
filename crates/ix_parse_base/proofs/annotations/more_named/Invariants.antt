use Rattle.std.proofs.Common.{◌≡◌, ◌≤◌, length}
use Rattle.ix_grammar_rules.specs.AnnotRules as spec
use Rattle.ix_grammar.specs.Lists.{joined}
use Rattle.ix_grammar_rules.specs.ListRules.{more_of}
use Rattle.ix_grammar_rules.specs.Rule.{run}
use Rattle.ix_parse_base.proofs.annotations.more_named.Given as goal

abbrev pub invariant-reading : goal.invariant-reading
invariant-reading l = record {
  leads : run (more_of spec.named joined l.initial.args) l.initial.cursor ≡ run (more_of spec.named joined l.args) l.cursor;
  no_longer : length l.cursor ≤ length l.initial.cursor;
}

abbrev pub decreases-reading : goal.decreases-reading
decreases-reading l = length l.cursor
