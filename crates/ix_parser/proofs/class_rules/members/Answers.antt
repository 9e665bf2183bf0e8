use Rattle.std.proofs.Common.{◌∙◌, arith}
use Rattle.ix_grammar.specs.ClassGrammar.{with_members}
use Rattle.ix_grammar_rules.specs.ClassRules as spec
use Rattle.ix_grammar_rules.specs.ListRules.{next_inside, braces_of}
use Rattle.ix_grammar_rules.specs.Onto.{onto}
use Rattle.ix_grammar_rules.specs.SourceRules.{parts}
use Rattle.ix_grammar_rules.proofs.Runs.{loop_on}
use Rattle.ix_parse_statements.proofs.Inside.{inside_turn}
use Rattle.ix_parser.proofs.class_rules.members.Goals as goal

pub reading-preserved : goal.reading-preserved
unfolding braces_of onto
reading-preserved c = record {
  leads =
      c.reading.invariant.leads
      ∙ loop_on (next_inside (spec.member parts c.args.left) with_members) c.reading.found c.in_ok-found.found c.reading.cursor c.member.new.cursor
      (inside_turn (spec.member parts c.args.left) with_members _ _ _ c.in_default.ensures.found c.in_ok-found.ensures.reads)
      c.in_ok-found.ensures.shorter;
  no_longer = omega (arith, c.reading.invariant.no_longer, c.in_ok-found.ensures.shorter);
  fits = c.in_ok-found.ensures.fits;
}
