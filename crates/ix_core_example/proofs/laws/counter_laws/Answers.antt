use Rattle.ix_core_example.proofs.laws.counter_laws.Goals as goal
use Rattle.ix_core_example.proofs.CounterFormed.{counter_formed}
use Rattle.ix_core_example.proofs.CounterLaws.{counter_safe}

pub returns-clause-formed : goal.returns-clause-formed
returns-clause-formed c = counter_formed

pub returns-clause-safe : goal.returns-clause-safe
returns-clause-safe c = counter_safe
