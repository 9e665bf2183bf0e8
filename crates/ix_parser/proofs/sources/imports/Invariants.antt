use Rattle.std.proofs.Common.{◌≡◌, ◌≤◌, length}
use Rattle.ix_grammar_rules.specs.ClassRules as spec
use Rattle.ix_grammar_rules.specs.Rule.{run}
use Rattle.ix_parser.proofs.sources.imports.Given as goal

abbrev pub invariant-reading : goal.invariant-reading
invariant-reading l = record {
  leads : run (spec.imports) l.initial.cursor ≡ run (spec.imports) l.cursor;
  no_longer : length l.cursor ≤ length l.initial.cursor;
}

abbrev pub decreases-reading : goal.decreases-reading
decreases-reading l = length l.cursor
