use Rattle.std.proofs.Common.{rules, ◌∙◌, arith}
use Rattle.ix_grammar.specs.DeclGrammar.{with_param}
use Rattle.ix_grammar_rules.specs.DeclRules as spec
use Rattle.ix_grammar_rules.specs.ListRules.{next_of, more_of}
use Rattle.ix_grammar_rules.proofs.Runs.{loop_on}
use Rattle.ix_parse_base.proofs.Turns.{one_more}
use Rattle.ix_parser.proofs.parameters.more_params.Goals as goal

pub reading-preserved : goal.reading-preserved
unfolding more_of
reading-preserved c = record {
  leads =
      c.reading.invariant.leads
      ∙ loop_on (next_of (spec.param c.args.left) with_param) c.reading.found c.in_ok-found-2.found c.reading.cursor c.param.new.cursor
      (one_more (spec.param c.args.left) with_param _ _ c.in_ok-next.next _ _ c.advance.new.self _ c.in-Some.ensures.found c.advance.ensures.rest c.in_ok-next.ensures.reads c.in_ok-found-2.ensures)
      (omega (arith, c.in-Some.ensures.there, c.advance.ensures.one_less, c.in_ok-next.ensures.no_longer));
  no_longer = omega (arith, c.reading.invariant.no_longer, c.advance.ensures.one_less, c.in_ok-next.ensures.no_longer);
  low = search rules;
  fits = search rules;
}
