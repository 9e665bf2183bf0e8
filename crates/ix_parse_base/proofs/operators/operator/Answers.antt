use Rattle.std.proofs.Common.{rules, sym}
use Rattle.ix_parse_base.proofs.Signs.{this_one, an_other}
use Rattle.ix_parse_base.proofs.operators.operator.Goals as goal

pub returns-then-found-level-clause-found : goal.returns-then-found-level-clause-found
returns-then-found-level-clause-found c = sym (this_one c.args.level c.args.cursor.now c.in-Some.found (search rules) (search rules))

pub returns-else-found-level-clause-found : goal.returns-else-found-level-clause-found
returns-else-found-level-clause-found c = sym (an_other c.args.level c.args.cursor.now c.in-Some.found (search rules) (search rules))
