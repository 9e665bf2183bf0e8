use Rattle.std.proofs.Common.{rules, ◌∙◌}
use Rattle.ix_grammar.specs.Lists.{joined}
use Rattle.ix_grammar_rules.specs.ListRules.{next_of, more_of}
use Rattle.ix_grammar_rules.specs.Rule.{run}
use Rattle.ix_grammar_rules.specs.AnnotRules as spec
use Rattle.ix_grammar_rules.proofs.Runs.{loop_on}
use Rattle.ix_parse_base.proofs.annotations.more_texts.Goals as goal

pub reading-preserved : goal.reading-preserved
unfolding run next_of more_of spec.text
reading-preserved c = record {
  leads = c.reading.invariant.leads ∙ loop_on (next_of spec.text joined) c.reading.texts c.push-in-Some.new.self c.reading.cursor c.advance-in-Some.new.self (search rules) (search rules);
  no_longer = search rules;
}
