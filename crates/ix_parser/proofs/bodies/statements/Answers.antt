use Rattle.std.proofs.Common.{rules, ◌∙◌, arith}
use Rattle.ix_grammar.specs.ClassGrammar.{with_stmt}
use Rattle.ix_grammar_rules.specs.ListRules.{next_inside}
use Rattle.ix_grammar_rules.specs.StmtRules.{block_statement}
use Rattle.ix_grammar_rules.proofs.Runs.{loop_on}
use Rattle.ix_parse_statements.proofs.Inside.{one_inside}
use Rattle.ix_parser.proofs.bodies.statements.Goals as goal

pub reading-preserved : goal.reading-preserved
reading-preserved c = record {
  leads =
      c.reading.invariant.leads
      ∙ loop_on (next_inside (block_statement c.args.left) with_stmt) c.reading.found c.in_ok-found.found c.reading.cursor c.block_statement.new.cursor
      (one_inside (block_statement c.args.left) with_stmt _ _ _ _ _ c.in_default.ensures.found c.in_ok-next.ensures.reads c.in_ok-found.ensures)
      c.in_ok-next.ensures.shorter;
  no_longer = omega (arith, c.reading.invariant.no_longer, c.in_ok-next.ensures.shorter);
  fits = search rules;
}
