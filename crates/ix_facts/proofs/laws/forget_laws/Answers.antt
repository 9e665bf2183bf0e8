use Rattle.ix_facts.proofs.laws.forget_laws.Goals as goal
use Rattle.ix_facts.specs.Round.{rounded}
use Rattle.ix_facts.proofs.ClosedStays.{without_closed}
use Rattle.ix_facts.proofs.FactLists.{stronger_hold}
use Rattle.ix_facts.proofs.Frame.{without_holds, without_stays}
use Rattle.ix_facts.proofs.RoundedStays.{rounded_closed}
use Rattle.ix_facts.proofs.RoundLaws.{rounded_weaker}
use Rattle.ix_facts.proofs.SaidLaws.{without_says}
use Rattle.ix_facts.proofs.SaidRules.{rounded_says, rounded_above}
use Rattle.ix_facts.proofs.SaidTables.{without_weaker, without_twice}

pub returns-clause-sound : goal.returns-clause-sound
returns-clause-sound c = λ is facts v w same h. without_stays is v w same facts (without_holds is v facts h)

pub returns-clause-monotone : goal.returns-clause-monotone
returns-clause-monotone c = without_says

pub returns-clause-twice : goal.returns-clause-twice
returns-clause-twice c = without_twice

pub returns-clause-weaker : goal.returns-clause-weaker
returns-clause-weaker c = without_weaker

pub returns-clause-closed : goal.returns-clause-closed
returns-clause-closed c = without_closed

pub returns-clause-rounded_weaker : goal.returns-clause-rounded_weaker
returns-clause-rounded_weaker c = rounded_above

pub returns-clause-rounded_sound : goal.returns-clause-rounded_sound
returns-clause-rounded_sound c = λ marks scope facts v h. stronger_hold v facts (rounded marks scope facts) (rounded_weaker marks scope facts) h

pub returns-clause-rounded_monotone : goal.returns-clause-rounded_monotone
returns-clause-rounded_monotone c = rounded_says

pub returns-clause-rounded_closed : goal.returns-clause-rounded_closed
returns-clause-rounded_closed c = rounded_closed
