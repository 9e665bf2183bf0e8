use Rattle.std.proofs.Common.{subst}
use Rattle.std.specs.Prelude.{◌↔◌, IsTrue}
use Rattle.ix_facts.specs.Closure.{SaysAll}
use Rattle.ix_store.specs.StoredFacts.{facts_in}
use Rattle.ix_store.proofs.lattice.says_all.Goals as goal

pub returns : goal.returns
returns c =
    let says = c.says_all.result in
    let first = c.get.result.now in
    record {
      below = subst (λ k. IsTrue says ↔ SaysAll (facts_in k) (facts_in c.args.second.now)) c.get.ensures (subst (λ k. IsTrue says ↔ SaysAll (facts_in first) (facts_in k)) c.get-2.ensures c.says_all.ensures.below);
    }
