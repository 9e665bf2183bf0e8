use Rattle.std.proofs.Common.{◌≡◌, ◌≤◌, ◌+◌, length}
use Rattle.ix_grammar_rules.specs.TypeRules as spec
use Rattle.ix_grammar_rules.specs.Rule.{run, loop}
use Rattle.ix_parse_base.proofs.type_trees.pairs.Given as goal

abbrev pub invariant-reading : goal.invariant-reading
invariant-reading l = record {
  leads : run (spec.pairs 1 l.fn.last) l.initial.cursor ≡ run (loop spec.next_pair l.found) l.cursor;
  no_longer : length l.cursor ≤ length l.initial.cursor;
  few : l.found.value + length l.cursor ≤ 200001;
}

abbrev pub decreases-reading : goal.decreases-reading
decreases-reading l = length l.cursor
