use Rattle.ix_grammar_rules.proofs.AnnotHeights.{named_low}
use Rattle.ix_parse_base.proofs.annotations.named_args.Goals as goal

pub returns-clause-low : goal.returns-clause-low
returns-clause-low c = named_low c.in_ok-args.args
