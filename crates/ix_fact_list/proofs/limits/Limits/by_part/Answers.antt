use Rattle.ix_fact_list.proofs.EndsOfPart.{ends_of_part}
use Rattle.ix_fact_list.proofs.limits.Limits.by_part.Goals as goal

pub of-requires-2-clause-ends : goal.of-requires-2-clause-ends
of-requires-2-clause-ends g c = ends_of_part c.args.part.now c.args.facts.now c.in_ok-ends.ends c.requires.part c.in_ok-ends.ensures
