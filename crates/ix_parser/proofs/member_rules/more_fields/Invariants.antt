use Rattle.std.proofs.Common.{◌≡◌, ◌≤◌, length}
use Rattle.ix_grammar_rules.specs.Onto.{with_field}
use Rattle.ix_grammar_rules.specs.DeclRules as spec
use Rattle.ix_grammar_rules.specs.ExprRules.{init}
use Rattle.ix_grammar_rules.specs.ListRules.{more_of}
use Rattle.ix_grammar_rules.specs.Rule.{run}
use Rattle.ix_parser.proofs.member_rules.more_fields.Given as goal

abbrev pub invariant-reading : goal.invariant-reading
invariant-reading l = record {
  leads : run (more_of (spec.decl init l.left l.all) with_field l.fn.before) l.initial.cursor ≡ run (more_of (spec.decl init l.left l.all) with_field l.found) l.cursor;
  no_longer : length l.cursor ≤ length l.initial.cursor;
  fits : l.found.height ≤ l.left;
}

abbrev pub decreases-reading : goal.decreases-reading
decreases-reading l = length l.cursor
