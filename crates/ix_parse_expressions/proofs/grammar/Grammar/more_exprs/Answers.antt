use Rattle.std.proofs.Common.{rules, ◌∙◌, arith}
use Rattle.ix_grammar_rules.specs.ExprRules as spec
use Rattle.ix_grammar_rules.proofs.Runs.{loop_on}
use Rattle.ix_parse_expressions.proofs.ExprTurns.{one_expr_more}
use Rattle.ix_parse_expressions.proofs.grammar.Grammar.more_exprs.Goals as goal

pub reading-preserved : goal.reading-preserved
reading-preserved g c = record {
  leads =
      c.reading.invariant.leads
      ∙ loop_on (spec.more_exprs (spec.expr c.args.height)) c.reading.several c.in_ok-several-2.several c.reading.cursor c.expr.new.cursor
      (one_expr_more (spec.expr c.args.height) _ _ _ _ _ c.advance.new.self _ c.in-Some.ensures.found c.advance.ensures.rest c.in_ok-found.ensures.reads c.in_ok-several-2.ensures)
      (omega (arith, c.in-Some.ensures.there, c.advance.ensures.one_less, c.in_ok-found.ensures.no_longer));
  no_longer = omega (arith, c.reading.invariant.no_longer, c.advance.ensures.one_less, c.in_ok-found.ensures.no_longer);
  fits = search rules;
}
