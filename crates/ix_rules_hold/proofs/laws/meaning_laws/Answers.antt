use Rattle.ix_rules_hold.proofs.laws.meaning_laws.Goals as goal
use Rattle.ix_rules_hold.proofs.MachineTests.{told_true, told_false, claim_holds, claim_true, parameter_is, field_is}

pub returns-clause-told_true : goal.returns-clause-told_true
returns-clause-told_true c = told_true

pub returns-clause-told_false : goal.returns-clause-told_false
returns-clause-told_false c = told_false

pub returns-clause-claim_holds : goal.returns-clause-claim_holds
returns-clause-claim_holds c = claim_holds

pub returns-clause-claim_true : goal.returns-clause-claim_true
returns-clause-claim_true c = claim_true

pub returns-clause-parameters : goal.returns-clause-parameters
returns-clause-parameters c = parameter_is

pub returns-clause-fields : goal.returns-clause-fields
returns-clause-fields c = field_is
