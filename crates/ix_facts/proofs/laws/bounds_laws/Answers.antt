use Rattle.ix_facts.proofs.laws.bounds_laws.Goals as goal
use Rattle.ix_facts.proofs.BoundLaws.{bounds_hold}
use Rattle.ix_facts.proofs.SaidRules.{bounds_say}

pub returns-clause-sound : goal.returns-clause-sound
returns-clause-sound c = bounds_hold

pub returns-clause-monotone : goal.returns-clause-monotone
returns-clause-monotone c = bounds_say
