use Rattle.std.proofs.Common.{rules, ◌∙◌}
use Rattle.ix_grammar.specs.DeclGrammar.{nothing_more}
use Rattle.ix_grammar_rules.specs.DeclRules as spec
use Rattle.ix_grammar_rules.specs.ListRules.{next_of, more_of}
use Rattle.ix_grammar_rules.specs.Rule.{run}
use Rattle.ix_grammar_rules.proofs.Runs.{loop_on}
use Rattle.ix_parser.proofs.parameters.more_thrown.Goals as goal

pub reading-preserved : goal.reading-preserved
unfolding run next_of more_of spec.a_thrown
reading-preserved c = record {
  leads = c.reading.invariant.leads ∙ loop_on (next_of spec.a_thrown nothing_more) tt tt c.reading.cursor c.take_name.new.self (search rules) (search rules);
  no_longer = search rules;
}
