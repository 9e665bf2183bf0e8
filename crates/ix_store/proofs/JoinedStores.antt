-- The join of two stores, by what each is.
use Rattle.std.specs.Prelude.{◌≡◌, Some, None, Result, Ok, Err, IfOk}
use Rattle.std.specs.declared.alloc.AllocError.{AllocError}
use Rattle.ix_lattice.specs.Lattice.{IsJoin}
use Rattle.ix_facts.specs.Closure.{IsCommon}
use Rattle.ix_facts.specs.Stores.{Stored, SayTheSame, IsJoined, left, right, both}
use Rattle.ix_facts.proofs.StoreLaws.{below_itself}
use Rattle.ix_store.specs.declared.known.Known.{Known}
use Rattle.ix_store.specs.declared.store.Store.{Store}
use Rattle.ix_store.specs.StoredFacts.{facts_in, stored}
use Rattle.ix_store.specs.StoreOrder.{StoreBelow}
use Rattle.ix_store.specs.StoreLaws.{is_join}

same_itself : (s : Stored) → SayTheSame s s
same_itself s = (below_itself s, below_itself s)

-- of a store and an unreachable one the store itself
pub first_joined : (s t : Store) (made : Result Store AllocError) → t.known ≡ None → IfOk made (λ j. j ≡ s) → IfOk made (λ j. IsJoined (stored s) (stored t) (stored j))
first_joined s t (Ok j) none same = rw (same, none) (left (stored s) (stored s) (same_itself (stored s)))
first_joined s t (Err e) none same = tt

pub second_joined : (s t : Store) (made : Result Store AllocError) → s.known ≡ None → IfOk made (λ j. j ≡ t) → IfOk made (λ j. IsJoined (stored s) (stored t) (stored j))
second_joined s t (Ok j) none same = rw (same, none) (right (stored t) (stored t) (same_itself (stored t)))
second_joined s t (Err e) none same = tt

pub both_joined : (s t j : Store) (first second common : Known) → s.known ≡ Some first → t.known ≡ Some second → IsCommon (facts_in first) (facts_in second) (facts_in common) → j.known ≡ Some common
    → IsJoined (stored s) (stored t) (stored j)
both_joined s t j first second common a b is made = rw (made, a, b) (both (facts_in first) (facts_in second) (facts_in common) is)

-- and it is the least store above both
pub least_joined : (s t : Store) (made : Result Store AllocError) → IfOk made (λ j. IsJoined (stored s) (stored t) (stored j)) → IfOk made (IsJoin StoreBelow s t)
least_joined s t (Ok j) is = is_join s t j is
least_joined s t (Err e) is = tt
