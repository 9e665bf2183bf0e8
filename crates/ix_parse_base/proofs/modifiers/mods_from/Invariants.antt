use Rattle.std.proofs.Common.{◌≡◌, ◌≤◌, length}
use Rattle.ix_grammar_rules.specs.DeclRules as spec
use Rattle.ix_grammar_rules.specs.Reading.{words_of}
use Rattle.ix_grammar_rules.specs.Rule.{run, loop}
use Rattle.ix_parse_base.proofs.modifiers.mods_from.Given as goal

abbrev pub invariant-reading : goal.invariant-reading
invariant-reading l = record {
  leads : run (loop (spec.next_mod (words_of l.words) l.left) l.fn.first) l.initial.cursor ≡ run (loop (spec.next_mod (words_of l.words) l.left) l.found) l.cursor;
  no_longer : length l.cursor ≤ length l.initial.cursor;
  low : l.found.height ≤ 3;
  fits : l.found.height ≤ l.left;
}

abbrev pub decreases-reading : goal.decreases-reading
decreases-reading l = length l.cursor
