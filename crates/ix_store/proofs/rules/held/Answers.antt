use Rattle.std.proofs.Common.{ap}
use Rattle.ix_facts.specs.Stores.{Reached}
use Rattle.ix_store.specs.StoredFacts.{facts_in}
use Rattle.ix_store.proofs.rules.held.Goals as goal

pub returns : goal.returns
returns c = ap (λ known. Reached (facts_in known)) c.in_ok-known.ensures
