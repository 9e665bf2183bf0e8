use Rattle.ix_facts.proofs.laws.closing_laws.Goals as goal
use Rattle.ix_facts.proofs.ClosureLaws.{is_closed, closed_holds, greatest_closed, common_closed, hold_apart, kept_hold}
use Rattle.ix_facts.proofs.SaidKept.{kept_says}
use Rattle.ix_facts.proofs.StoreLaws.{closed_says}
use Rattle.ix_facts.proofs.FactLists.{all_hold_each}

pub returns-clause-sound : goal.returns-clause-sound
returns-clause-sound c = λ facts closed v is h. all_hold_each v closed (closed_holds facts closed v is h)

pub returns-clause-closed : goal.returns-clause-closed
returns-clause-closed c = is_closed

pub returns-clause-greatest : goal.returns-clause-greatest
returns-clause-greatest c = greatest_closed

pub returns-clause-monotone : goal.returns-clause-monotone
returns-clause-monotone c = closed_says

pub returns-clause-common : goal.returns-clause-common
returns-clause-common c = common_closed

pub returns-clause-reachable : goal.returns-clause-reachable
returns-clause-reachable c = hold_apart

pub returns-clause-kept_sound : goal.returns-clause-kept_sound
returns-clause-kept_sound c = λ facts v h. kept_hold v facts h

pub returns-clause-kept_monotone : goal.returns-clause-kept_monotone
returns-clause-kept_monotone c = kept_says
