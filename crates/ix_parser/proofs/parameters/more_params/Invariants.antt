use Rattle.std.proofs.Common.{◌≡◌, ◌≤◌, length}
use Rattle.ix_grammar.specs.DeclGrammar as nodes
use Rattle.ix_grammar_rules.specs.DeclRules as spec
use Rattle.ix_grammar_rules.specs.ListRules.{more_of}
use Rattle.ix_grammar_rules.specs.Rule.{run}
use Rattle.ix_parser.proofs.parameters.more_params.Given as goal

abbrev pub invariant-reading : goal.invariant-reading
invariant-reading l = record {
  leads : run (more_of (spec.param l.left) nodes.with_param (nodes.one_param l.fn.first)) l.initial.cursor ≡ run (more_of (spec.param l.left) nodes.with_param l.found) l.cursor;
  no_longer : length l.cursor ≤ length l.initial.cursor;
  low : l.found.height ≤ 5;
  fits : l.found.height ≤ l.left;
}

abbrev pub decreases-reading : goal.decreases-reading
decreases-reading l = length l.cursor
