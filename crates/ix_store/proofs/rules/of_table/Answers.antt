use Rattle.std.proofs.Common.{subst}
use Rattle.ix_facts.specs.Stores.{Reached, IsStoreOf}
use Rattle.ix_fact_table.specs.FactTables.{facts_of}
use Rattle.ix_store.specs.StoredFacts.{facts_in, stored_in}
use Rattle.ix_store.proofs.MadeStores.{made_each}
use Rattle.ix_store.proofs.rules.of_table.Goals as goal

pub returns-in-Some : goal.returns-in-Some
returns-in-Some c = record {
  store = made_each c.reached.result (Reached (facts_in c.in-Some.known)) (facts_of c.args.over) c.reached.ensures
      (λ all closed. subst (λ known. IsStoreOf all (stored_in known)) c.in-Some.is (c.in_ok-of_table.ensures.store all closed));
}
