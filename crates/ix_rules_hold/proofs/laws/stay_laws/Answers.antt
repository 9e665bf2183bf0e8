use Rattle.std.specs.Prelude.{◌≡◌, true}
use Rattle.ix_rules_hold.proofs.laws.stay_laws.Goals as goal
use Rattle.ix_rules_hold.proofs.KeptNumbers.{call_same, super_same, write_numbers}

pub returns-clause-call : goal.returns-clause-call
returns-clause-call c = call_same

pub returns-clause-super_call : goal.returns-clause-super_call
returns-clause-super_call c = super_same

pub returns-clause-write : goal.returns-clause-write
returns-clause-write c = λ world tables is_building. write_numbers world tables (λ object. is_building object ≡ true)
