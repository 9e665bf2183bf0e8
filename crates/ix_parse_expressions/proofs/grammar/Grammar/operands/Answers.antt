use Rattle.std.proofs.Common.{◌≡◌, ◌≢◌, Err, rules, ◌∙◌, arith}
use Rattle.ix_grammar_rules.specs.declared.stop.Stop.TheVariants.{Memory}
use Rattle.ix_grammar_rules.specs.ExprRules as spec
use Rattle.ix_grammar_rules.specs.Rule.{run, loop}
use Rattle.ix_grammar_rules.proofs.Runs.{loop_on, loop_stops}
use Rattle.ix_parse_expressions.proofs.ExprTurns.{an_operand, no_operand}
use Rattle.ix_parse_expressions.proofs.grammar.Grammar.operands.Goals as goal

pub reading-preserved : goal.reading-preserved
reading-preserved g c = record {
  leads =
      c.reading.invariant.leads
      ∙ loop_on (spec.operand (spec.below c.args.self.now.left) c.args.self.now.left c.args.level) c.reading.found c.in_ok-found.found c.reading.cursor c.level_part.new.cursor
      (an_operand _ _ _ _ _ _ c.advance.new.self c.in_ok-second.second _ _ c.in-Some.ensures.found (search rules) c.advance.ensures.rest c.in_ok-second.ensures.reads c.in_ok-found.ensures)
      (omega (arith, c.in-Some.ensures.there, c.advance.ensures.one_less, c.in_ok-second.ensures.no_longer));
  no_longer = omega (arith, c.reading.invariant.no_longer, c.advance.ensures.one_less, c.in_ok-second.ensures.no_longer);
  fits = search rules;
}

pub returns-in_err-second : goal.returns-in_err-second
returns-in_err-second g c =
    let reads : c.in_err-second.field-0.0 ≢ Memory → run (loop (spec.operand (spec.below c.args.self.now.left) c.args.self.now.left c.args.level) c.args.first) c.args.cursor.now ≡ Err (c.in_err-second.field-0.0, c.level_part.new.cursor)
    = λ other. c.reading.invariant.leads
    ∙ loop_stops (spec.operand (spec.below c.args.self.now.left) c.args.self.now.left c.args.level) c.reading.found c.reading.cursor c.level_part.new.cursor c.in_err-second.field-0.0
    (no_operand _ _ _ _ _ _ c.advance.new.self _ c.in-Some.ensures.found (search rules) c.advance.ensures.rest (c.in_err-second.ensures.reads other)) in
    search rules
