use Rattle.std.proofs.Common.{rules, ◌∙◌}
use Rattle.ix_grammar_rules.specs.ClassRules as spec
use Rattle.ix_grammar_rules.specs.Rule.{run}
use Rattle.ix_grammar_rules.proofs.Runs.{loop_on}
use Rattle.ix_parser.proofs.sources.more_dotted.Goals as goal

pub reading-preserved : goal.reading-preserved
unfolding run spec.next_dot
reading-preserved c = record {
  leads = c.reading.invariant.leads ∙ loop_on spec.next_dot tt tt c.reading.cursor c.take_name.new.self (search rules) (search rules);
  no_longer = search rules;
}
