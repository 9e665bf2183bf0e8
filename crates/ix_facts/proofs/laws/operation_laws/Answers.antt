use Rattle.ix_facts.proofs.laws.operation_laws.Goals as goal
use Rattle.ix_facts.proofs.AfterLaws.{after_hold, copy_hold}
use Rattle.ix_facts.proofs.ClassesStay.{after_classes, copy_classes}
use Rattle.ix_facts.proofs.StoresHold.{step_exact}
use Rattle.ix_facts.proofs.SaidRules.{operated_mono, copy_says}

pub returns-clause-sound : goal.returns-clause-sound
returns-clause-sound c = after_hold

pub returns-clause-monotone : goal.returns-clause-monotone
returns-clause-monotone c = operated_mono

pub returns-clause-exact : goal.returns-clause-exact
returns-clause-exact c = step_exact

pub returns-clause-classes : goal.returns-clause-classes
returns-clause-classes c = after_classes

pub returns-clause-copy_classes : goal.returns-clause-copy_classes
returns-clause-copy_classes c = copy_classes

pub returns-clause-copy_sound : goal.returns-clause-copy_sound
returns-clause-copy_sound c = copy_hold

pub returns-clause-copy_monotone : goal.returns-clause-copy_monotone
returns-clause-copy_monotone c = copy_says
