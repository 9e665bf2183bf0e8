use Rattle.ix_facts.proofs.laws.test_laws.Goals as goal
use Rattle.ix_facts.specs.Facts.{in_orders}
use Rattle.ix_facts.proofs.BoundsHold.{in_orders_hold}
use Rattle.ix_facts.proofs.SaidRules.{outcome_says}
use Rattle.ix_facts.proofs.TestLaws.{int_outcomes_so, opposite_holds, outcome_holds}

pub returns-clause-told : goal.returns-clause-told
returns-clause-told c = int_outcomes_so

pub returns-clause-opposite : goal.returns-clause-opposite
returns-clause-opposite c = opposite_holds

pub returns-clause-sound : goal.returns-clause-sound
returns-clause-sound c = λ facts v outcome h is. outcome_holds v (in_orders facts) (in_orders_hold v facts h) outcome is

pub returns-clause-monotone : goal.returns-clause-monotone
returns-clause-monotone c = outcome_says
