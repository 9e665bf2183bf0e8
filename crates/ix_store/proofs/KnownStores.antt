-- Closed facts of which no range is empty are the store of themselves, and their numbers are small.
use Rattle.std.specs.Prelude.{◌≡◌, ℕ, zero, suc, All, Bool, false, List, [], ◌∷◌, ◌++◌, Some, slice_get, take}
use Rattle.std.proofs.Common.{inl, inr, ap, sym, ◌∙◌, subst}
use Rattle.std.proofs.lemmas.List.{append-nil}
use Rattle.std.proofs.lemmas.List.Elements.{All-nil, All-cons, All-head, All-tail}
use Rattle.ix_core.specs.declared.fact.Path.{Path}
use Rattle.ix_core.specs.declared.fact.Fact.{Fact}
use Rattle.ix_core.proofs.Cases.{by_test}
use Rattle.ix_facts.specs.Facts.{IsIn, in_orders}
use Rattle.ix_facts.specs.Forget.{names, without}
use Rattle.ix_facts.specs.Closure.{Closed, IsClosedOf, given}
use Rattle.ix_facts.specs.Stores.{IsStoreOf, Reached}
use Rattle.ix_facts.specs.Small.{HasSmallNumbers}
use Rattle.ix_facts.specs.Kinds.{of_kind}
use Rattle.ix_facts.specs.Systems as tables
use Rattle.ix_facts.specs.Systems.{IsTable}
use Rattle.ix_facts.proofs.FactLists.{in_right}
use Rattle.ix_fact_table.specs.FactTables.{table_kind}
use Rattle.ix_store.proofs.TablesInTurn.{any_table, said_closed}
use Rattle.ix_facts.proofs.Tests.{neither}
use Rattle.ix_bounds.proofs.BoundSteps.{in_orders_small}
use Rattle.ix_fact_table.specs.TableLaws.{all_may}
use Rattle.ix_store.specs.declared.known.Known.{Known}
use Rattle.ix_store.specs.EmptyRanges.{is_empty, some_empty}
use Rattle.ix_store.specs.StoredFacts.{facts_in}
use Rattle.ix_store.proofs.ClosedTests.{closed_of_test}
use Rattle.ix_store.proofs.SmallNumbers.{small, all_small}
use Rattle.ix_store.proofs.StoresOf.{closed_reached}

itself_closed : (known : Known) → IsClosedOf (facts_in known) (facts_in known)
itself_closed known = record {
  says = closed_of_test (facts_in known) known.holds.closed;
  only = λ f i. given f i;
  tells = λ f i. (all_may known.table f i).tells;
}

-- of facts from which its own follow and no others
pub known_closed : (known : Known) (facts : List Fact) → IsClosedOf facts (facts_in known) → IsStoreOf facts (Reached (facts_in known))
known_closed known facts closed = closed_reached facts (facts_in known) closed known.holds.full

pub known_store : (known : Known) → IsStoreOf (facts_in known) (Reached (facts_in known))
known_store known = known_closed known (facts_in known) (itself_closed known)

-- also where no facts are put behind them
pub known_with_none : (known : Known) (new : List Fact) → new ≡ [] → IsStoreOf (facts_in known ++ new) (Reached (facts_in known))
known_with_none known new none = subst (λ l. IsStoreOf l (Reached (facts_in known))) (sym (ap (λ l. facts_in known ++ l) none ∙ append-nil (facts_in known))) (known_store known)

pub small_orders : (known : Known) → All HasSmallNumbers (in_orders (facts_in known))
small_orders known = in_orders_small (facts_in known) (all_small known.table known.holds.full)

first_small : (n : ℕ) (facts : List Fact) → All HasSmallNumbers facts → All HasSmallNumbers (take n facts)
first_small zero facts s = All-nil HasSmallNumbers
first_small (suc n) [] s = All-nil HasSmallNumbers
first_small (suc n) (f ∷ facts) s = All-cons HasSmallNumbers f (take n facts) (All-head HasSmallNumbers f facts s) (first_small n facts (All-tail HasSmallNumbers f facts s))

pub small_ends : (known : Known) → All HasSmallNumbers (take known.ends (in_orders (facts_in known)))
small_ends known = first_small known.ends (in_orders (facts_in known)) (small_orders known)

-- where facts go, no other range is empty
pub without_full : (is : Path → Bool) (facts : List Fact) → some_empty facts ≡ false → some_empty (without is facts) ≡ false
without_full is [] n = n
without_full is (f ∷ facts) n =
    let parts = neither (is_empty f) (some_empty facts) n in
    let rest = without_full is facts parts.1 in
    by_test (names is f) (λ t. rw t rest) (λ t. rw t (rw parts.0 rest))

fact_at : (facts : List Fact) (k : ℕ) (f : Fact) → slice_get facts k ≡ Some f → IsIn f facts
fact_at [] k f e = cc
fact_at (g ∷ facts) zero f e = let i : f ≡ g = cc in inl i
fact_at (g ∷ facts) (suc k) f e = inr (fact_at facts k f e)

pub small_at : (known : Known) (k : ℕ) (f : Fact) → slice_get (facts_in known) k ≡ Some f → HasSmallNumbers f
small_at known k f e = small known.table known.holds.full f (fact_at (facts_in known) k f e)

pub is_closed_known : (known : Known) → Closed (facts_in known)
is_closed_known known = closed_of_test (facts_in known) known.holds.closed

-- where they say new facts already
pub known_says : (known : Known) (new : List Fact) → IsTable (facts_in known ++ of_kind (table_kind known.table) new) (facts_in known) → IsClosedOf (facts_in known ++ new) (facts_in known)
known_says known new made =
    let all = any_table (table_kind known.table) (facts_in known) new (facts_in known) known.holds.kind made in
    said_closed (facts_in known) new (is_closed_known known) (λ f i. (all_may known.table f i).tells) (λ f i. all.says f (tables.given f (in_right f (facts_in known) new i)))
