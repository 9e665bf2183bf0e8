use Rattle.std.proofs.Common.{rules, ◌∙◌, arith}
use Rattle.ix_grammar.specs.ClassGrammar.{with_stmt as one_more}
use Rattle.ix_grammar_rules.specs.ListRules.{braces_of, next_inside}
use Rattle.ix_grammar_rules.specs.StmtRules as spec
use Rattle.ix_grammar_rules.proofs.Runs.{loop_on}
use Rattle.ix_parse_statements.proofs.Inside.{one_inside}
use Rattle.ix_parse_statements.proofs.statement_parts.Statements.statements.Goals as goal

pub reading-preserved : goal.reading-preserved
unfolding braces_of
reading-preserved g c = record {
  leads =
      c.reading.invariant.leads
      ∙ loop_on (next_inside (spec.stmts_below c.args.self.now.left).block one_more) c.reading.found c.in_ok-found.found c.reading.cursor c.block_part.new.cursor
      (one_inside (spec.stmts_below c.args.self.now.left).block one_more _ _ _ _ _ c.in_default.ensures.found c.in_ok-block_part.ensures.reads c.in_ok-found.ensures)
      c.in_ok-block_part.ensures.shorter;
  no_longer = omega (arith, c.reading.invariant.no_longer, c.in_ok-block_part.ensures.shorter);
  fits = search rules;
}
