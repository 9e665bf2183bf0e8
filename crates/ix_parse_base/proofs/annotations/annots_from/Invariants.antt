use Rattle.std.proofs.Common.{◌≡◌, ◌≤◌, length}
use Rattle.ix_grammar_rules.specs.AnnotRules as spec
use Rattle.ix_grammar_rules.specs.Rule.{run}
use Rattle.ix_parse_base.proofs.annotations.annots_from.Given as goal

abbrev pub invariant-reading : goal.invariant-reading
invariant-reading l = record {
  leads : run (spec.annots_from l.left l.initial.notes) l.initial.cursor ≡ run (spec.annots_from l.left l.notes) l.cursor;
  no_longer : length l.cursor ≤ length l.initial.cursor;
  low : l.notes.height ≤ 3;
  fits : l.notes.height ≤ l.left;
}

abbrev pub decreases-reading : goal.decreases-reading
decreases-reading l = length l.cursor
