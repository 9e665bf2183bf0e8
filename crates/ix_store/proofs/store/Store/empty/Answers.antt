use Rattle.std.proofs.lemmas.Result.{IfOk-weaker}
use Rattle.ix_store.specs.StoredFacts.{stored}
use Rattle.ix_store.proofs.NoFacts.{store_of_none}
use Rattle.ix_store.proofs.store.Store.empty.Goals as goal

pub returns : goal.returns
returns c = record { store = IfOk-weaker c.of_facts.result _ _ (λ store made. store_of_none (stored store) made) c.of_facts.ensures.store }
