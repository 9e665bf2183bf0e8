use Rattle.ix_facts.proofs.stores.store_laws.Goals as goal
use Rattle.ix_facts.proofs.StoreLaws.{below_itself, below_below, below_meets, store_closed, store_meets, store_mono, store_above, store_least, joined_closed, joined_above, joined_least, joined_mono}

pub returns-clause-order : goal.returns-clause-order
returns-clause-order c = λ s t u. (below_itself s, below_below s t u)

pub returns-clause-meets : goal.returns-clause-meets
returns-clause-meets c = below_meets

pub returns-clause-closed : goal.returns-clause-closed
returns-clause-closed c = store_closed

pub returns-clause-sound : goal.returns-clause-sound
returns-clause-sound c = store_meets

pub returns-clause-monotone : goal.returns-clause-monotone
returns-clause-monotone c = store_mono

pub returns-clause-above : goal.returns-clause-above
returns-clause-above c = store_above

pub returns-clause-least : goal.returns-clause-least
returns-clause-least c = store_least

pub returns-clause-joined_closed : goal.returns-clause-joined_closed
returns-clause-joined_closed c = joined_closed

pub returns-clause-joined_above : goal.returns-clause-joined_above
returns-clause-joined_above c = joined_above

pub returns-clause-joined_least : goal.returns-clause-joined_least
returns-clause-joined_least c = joined_least

pub returns-clause-joined_monotone : goal.returns-clause-joined_monotone
returns-clause-joined_monotone c = joined_mono
