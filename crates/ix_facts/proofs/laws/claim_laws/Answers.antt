use Rattle.ix_facts.proofs.laws.claim_laws.Goals as goal
use Rattle.ix_facts.specs.Facts.{in_orders}
use Rattle.ix_facts.proofs.BoundsHold.{in_orders_hold}
use Rattle.ix_facts.proofs.ClassesStay.{claim_classes}
use Rattle.ix_facts.proofs.ClaimLaws.{claim_facts_hold, proved_holds}
use Rattle.ix_facts.proofs.SaidRules.{proves_says}

pub returns-clause-assumed : goal.returns-clause-assumed
returns-clause-assumed c = claim_facts_hold

pub returns-clause-sound : goal.returns-clause-sound
returns-clause-sound c = λ facts v claim p h t. proved_holds v (in_orders facts) (in_orders_hold v facts h) claim p t

pub returns-clause-monotone : goal.returns-clause-monotone
returns-clause-monotone c = proves_says

pub returns-clause-classes : goal.returns-clause-classes
returns-clause-classes c = claim_classes
