use Rattle.std.proofs.Common.{◌≡◌, ◌≤◌, length}
use Rattle.ix_grammar_rules.specs.ClassRules as spec
use Rattle.ix_grammar_rules.specs.Rule.{run, loop}
use Rattle.ix_parser.proofs.sources.imported_behind.Given as goal

abbrev pub invariant-reading : goal.invariant-reading
invariant-reading l = record {
  leads : run (loop spec.next_imported tt) l.initial.cursor ≡ run (loop spec.next_imported tt) l.cursor;
  no_longer : length l.cursor ≤ length l.initial.cursor;
}

abbrev pub decreases-reading : goal.decreases-reading
decreases-reading l = length l.cursor
