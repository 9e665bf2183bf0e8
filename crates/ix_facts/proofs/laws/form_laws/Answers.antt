use Rattle.ix_facts.proofs.laws.form_laws.Goals as goal
use Rattle.ix_facts.proofs.FormLaws.{same_bounds, same_rules, same_outcomes, same_proved}
use Rattle.ix_facts.proofs.LengthLaws.{same_with_lengths}
use Rattle.ix_facts.proofs.ShiftedWays.{way_counts, shifted_way}

pub returns-clause-bounds : goal.returns-clause-bounds
returns-clause-bounds c = same_bounds

pub returns-clause-operations : goal.returns-clause-operations
returns-clause-operations c = same_rules

pub returns-clause-tests : goal.returns-clause-tests
returns-clause-tests c = same_outcomes

pub returns-clause-claims : goal.returns-clause-claims
returns-clause-claims c = same_proved

pub returns-clause-ways : goal.returns-clause-ways
returns-clause-ways c = way_counts

pub returns-clause-no_other : goal.returns-clause-no_other
returns-clause-no_other c = shifted_way

pub returns-clause-lengths : goal.returns-clause-lengths
returns-clause-lengths c = same_with_lengths
