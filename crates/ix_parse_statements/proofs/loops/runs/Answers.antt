use Rattle.std.proofs.Common.{rules, ◌-◌, ◌∙◌, arith}
use Rattle.ix_grammar_rules.specs.ExprRules.{statement_expr as the_expr}
use Rattle.ix_grammar_rules.specs.ListRules.{next_of, more_of}
use Rattle.ix_grammar.specs.StmtGrammar as nodes
use Rattle.ix_grammar_rules.proofs.Runs.{loop_on}
use Rattle.ix_parse_base.proofs.Turns.{one_more}
use Rattle.ix_parse_statements.proofs.loops.runs.Goals as goal

pub reading-preserved : goal.reading-preserved
unfolding more_of
reading-preserved c = record {
  leads =
      c.reading.invariant.leads
      ∙ loop_on (next_of (the_expr (c.args.left - 2)) nodes.with_run) c.reading.found c.in_ok-found-2.found c.reading.cursor c.statement_expr.new.cursor
      (one_more (the_expr (c.args.left - 2)) nodes.with_run _ _ c.in_ok-next.next _ _ c.advance.new.self _ c.in-Some.ensures.found c.advance.ensures.rest c.in_ok-next.ensures.reads c.in_ok-found-2.ensures)
      (omega (arith, c.in-Some.ensures.there, c.advance.ensures.one_less, c.in_ok-next.ensures.no_longer));
  no_longer = omega (arith, c.reading.invariant.no_longer, c.advance.ensures.one_less, c.in_ok-next.ensures.no_longer);
  fits = search rules;
}
