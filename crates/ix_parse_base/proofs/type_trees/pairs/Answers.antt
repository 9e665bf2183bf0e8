use Rattle.std.proofs.Common.{rules, ◌∙◌}
use Rattle.ix_grammar_rules.specs.TypeRules as spec
use Rattle.ix_grammar_rules.specs.Rule.{run}
use Rattle.ix_grammar_rules.proofs.Runs.{loop_on}
use Rattle.ix_parse_base.proofs.type_trees.pairs.Goals as goal

pub reading-preserved : goal.reading-preserved
unfolding run spec.next_pair spec.pairs
reading-preserved c = record {
  leads = c.reading.invariant.leads ∙ loop_on spec.next_pair c.reading.found _ c.reading.cursor c.take_sign.new.self (search rules) (search rules);
  no_longer = search rules;
  few = search rules;
}
