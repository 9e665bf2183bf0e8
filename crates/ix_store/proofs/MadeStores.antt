-- A store that was made, if there was memory for it, is that of facts.
use Rattle.std.specs.Prelude.{◌≡◌, List, Result, Ok, Err, IfOk}
use Rattle.std.specs.declared.alloc.AllocError.{AllocError}
use Rattle.std.proofs.Common.{sym, subst}
use Rattle.ix_core.specs.declared.fact.Fact.{Fact}
use Rattle.ix_facts.specs.Closure.{IsClosedOf}
use Rattle.ix_facts.specs.Stores.{Stored, IsStoreOf}
use Rattle.ix_store.specs.declared.store.Store.{Store}
use Rattle.ix_store.specs.StoredFacts.{stored}

pub made_as : (made : Result Store AllocError) (facts : List Fact) (is : Stored) → IfOk made (λ store. stored store ≡ is) → IsStoreOf facts is → IfOk made (λ store. IsStoreOf facts (stored store))
made_as (Ok store) facts is same of = subst (IsStoreOf facts) (sym same) of
made_as (Err e) facts is same of = tt

pub made_of : (made : Result Store AllocError) (facts table : List Fact) → IfOk made (λ store. (all : List Fact) → IsClosedOf all table → IsStoreOf all (stored store)) → IsClosedOf facts table → IfOk made (λ store. IsStoreOf facts (stored store))
made_of (Ok store) facts table made closed = made facts closed
made_of (Err e) facts table made closed = tt

pub made_each : (made : Result Store AllocError) (is : Stored) (table : List Fact) → IfOk made (λ store. stored store ≡ is) → ((all : List Fact) → IsClosedOf all table → IsStoreOf all is) → IfOk made (λ store. (all : List Fact) → IsClosedOf all table → IsStoreOf all (stored store))
made_each (Ok store) is table same each = λ all closed. subst (IsStoreOf all) (sym same) (each all closed)
made_each (Err e) is table same each = tt
