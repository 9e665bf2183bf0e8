use Rattle.std.proofs.Common.{◌≡◌, subst, sym}
use Rattle.ix_facts.specs.Closure.{SaysAll}
use Rattle.ix_facts.specs.Stores.{Reached, IsStoreOf}
use Rattle.ix_fact_table.specs.FactTables.{facts_of}
use Rattle.ix_store.specs.StoredFacts.{facts_in, stored}
use Rattle.ix_store.proofs.WholeStores.{proper_classes, store_whole, whole_says}
use Rattle.ix_store.proofs.given.is_all.Goals as goal

-- src/given.rt
pub table_of-requires : goal.table_of-requires
table_of-requires c = record { classes = proper_classes c.args.facts.now c.requires.proper }

pub returns : goal.returns
returns c =
    let facts = c.args.facts.now in
    let known = c.in-Some.known in
    let table = facts_of c.in_ok-table.table in
    let i = c.in-Some.is in
    let is : stored c.args.store.now ≡ Reached (facts_in known) = cc in
    let closed : IsStoreOf facts (Reached (facts_in known)) = subst (IsStoreOf facts) is c.requires.closed in
    let same : c.get.result.now ≡ known = c.get.ensures in
    let made = c.in_ok-table.ensures.table in
    record {
      whole = (
        λ t. store_whole facts (facts_in known) table c.requires.proper c.requires.apart closed made (subst (λ k. SaysAll table (facts_in k)) same (c.says_all-whole.ensures.below.0 t)),
        λ store. c.says_all-whole.ensures.below.1 (subst (λ k. SaysAll table (facts_in k)) (sym same) (whole_says facts (facts_in known) table closed made store)),
      );
    }
