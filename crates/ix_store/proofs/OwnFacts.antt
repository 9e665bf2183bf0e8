-- The facts of a store of which none compares an int with itself are what anyone may write down: all facts of a store, each once.
use Rattle.std.specs.Prelude.{◌≡◌, true, false, not, ◌&&◌, List, [], ◌∷◌, Option, Some, None, map, refl}
use Rattle.std.specs.List.{list_all, IsDistinct, AllByRecursion}
use Rattle.std.specs.Ordering.{is_eq, is_gt, eq_by_cmp}
use Rattle.std.proofs.Common.{inl, inr, ap, sym, ◌∙◌, subst, ⊎_elim}
use Rattle.std.proofs.lemmas.Bool.{false≢true, and_parts, and_from, not_from_false}
use Rattle.ix_core.specs.declared.fact.PathOff.TheVariants.{Nothing, Plus, Minus}
use Rattle.ix_core.specs.declared.fact.Fact.{Fact}
use Rattle.ix_core.specs.declared.fact.Fact.TheVariants.{Rng, LenRng, Low, Same, IsLen, Less, Sum, Search, Neg, Upper}
use Rattle.ix_core.proofs.Cases.{by_test}
use Rattle.ix_facts.specs.Facts.{IsIn, is_default}
use Rattle.ix_facts.specs.PathOrder.{path_cmp}
use Rattle.ix_facts.specs.Closure.{Contradicts}
use Rattle.ix_facts.specs.Stores.{IsStoreOf, Reached, reached}
use Rattle.ix_fact_table.specs.declared.fact_table.FactTable.{FactTable}
use Rattle.ix_fact_table.specs.FactTables.{facts_of}
use Rattle.ix_fact_table.specs.FactOrder.{fact_cmp}
use Rattle.ix_fact_table.specs.Entries.{in_first_order, is_first, has_ends, is_entry}
use Rattle.ix_fact_table.specs.MeetLaws.{entry_parts}
use Rattle.ix_fact_table.specs.Rising.{rises}
use Rattle.ix_fact_table.specs.RisingLaws.{below_each, rises_parts, table_rises, table_each}
use Rattle.ix_fact_table.specs.Apart.{AreApart, compares_two, is_proper}
use Rattle.ix_store.specs.declared.known.Known.{Known}
use Rattle.ix_store.specs.declared.store.Store.{Store}
use Rattle.ix_store.specs.StoredFacts.{facts_in, stored_in, stored}
use Rattle.ix_store.specs.WholeStores.{AreAStore}
use Rattle.ix_store.proofs.ClosedTests.{closed_of_test}
use Rattle.ix_store.proofs.KnownStores.{known_store}

-- ---- facts in the form of tables

-- a fact whose paths are in order is its first order
first_fixed : (f : Fact) → is_first f ≡ true → in_first_order f ≡ f
first_fixed (Same a b) h = by_test (is_gt (path_cmp a b)) (λ t. absurd (false≢true (sym (ap not t) ∙ h))) (λ t. rw t refl)
first_fixed (Sum t y z) h = by_test (is_gt (path_cmp y z)) (λ u. absurd (false≢true (sym (ap not u) ∙ h))) (λ u. rw u refl)
first_fixed (Upper p a (Plus q) c) h = by_test (is_gt (path_cmp p q)) (λ t. absurd (false≢true (sym (ap not t) ∙ h))) (λ t. rw t refl)
first_fixed (Upper p a Nothing c) h = refl
first_fixed (Upper p a (Minus q) c) h = refl
first_fixed (Rng p l k) h = refl
first_fixed (LenRng p l k) h = refl
first_fixed (Low p c) h = refl
first_fixed (IsLen p a) h = refl
first_fixed (Less p q c) h = refl
first_fixed (Search p a) h = refl
first_fixed (Neg p a) h = refl

abbrev AreEntries : List Fact → Type 0
AreEntries facts = (f : Fact) → IsIn f facts → is_entry f ≡ true

first_orders_fixed : (facts : List Fact) → AreEntries facts → map in_first_order facts ≡ facts
first_orders_fixed [] all = refl
first_orders_fixed (f ∷ facts) all =
    let one = first_fixed f (entry_parts f (all f (inl refl))).first in
    let rest = first_orders_fixed facts (λ g i. all g (inr i)) in
    ap (λ x. x ∷ map in_first_order facts) one ∙ ap (λ l. f ∷ l) rest

entries_proper : (facts : List Fact) → AreEntries facts → list_all compares_two facts ≡ true → list_all is_proper facts ≡ true
entries_proper [] all two = refl
entries_proper (f ∷ facts) all two =
    let parts = and_parts (compares_two f) (list_all compares_two facts) two in
    let entry = entry_parts f (all f (inl refl)) in
    let one = and_from (has_ends f) (not (is_default f) && compares_two f) entry.ends (and_from (not (is_default f)) (compares_two f) (not_from_false (is_default f) entry.tells) parts.0) in
    and_from (is_proper f) (list_all is_proper facts) one (entries_proper facts (λ g i. all g (inr i)) parts.1)

-- ---- facts at keys of their own

-- no fact of the list is at the key
abbrev IsAbsent : Fact → List Fact → Type 0
IsAbsent f facts = (g : Fact) → IsIn g facts → eq_by_cmp fact_cmp f g ≡ false

absent_all : (f : Fact) (facts : List Fact) → IsAbsent f facts → AllByRecursion (λ g. eq_by_cmp fact_cmp f g ≡ false) facts
absent_all f [] absent = tt
absent_all f (g ∷ facts) absent = (absent g (inl refl), absent_all f facts (λ h i. absent h (inr i)))

all_absent : (f : Fact) (facts : List Fact) → AllByRecursion (λ g. eq_by_cmp fact_cmp f g ≡ false) facts → IsAbsent f facts
all_absent f [] all g i = absurd i
all_absent f (x ∷ facts) all g i = ⊎_elim (λ e. subst (λ y. eq_by_cmp fact_cmp f y ≡ false) (sym e) all.0) (λ j. all_absent f facts all.1 g j) i

rising_distinct : (facts : List Fact) → rises facts ≡ true → IsDistinct (eq_by_cmp fact_cmp) facts
unfolding IsDistinct
rising_distinct [] r = tt
rising_distinct (f ∷ facts) r =
    let parts = rises_parts f facts r in
    (absent_all f facts (λ g i. ap is_eq (below_each f facts parts.0 g i)), rising_distinct facts parts.1)

-- ---- a table

entries_in : (table : FactTable) → AreEntries (facts_of table)
entries_in table f i = (table_each table.kind (facts_of table) table.form f i).1

table_apart : (table : FactTable) → AreApart (facts_of table)
table_apart table =
    subst (IsDistinct (eq_by_cmp fact_cmp)) (sym (first_orders_fixed (facts_of table) (entries_in table))) (rising_distinct (facts_of table) (table_rises table.kind (facts_of table) table.form))

-- ---- a store's own facts

agree : (facts closed : List Fact) → IsStoreOf facts (Reached closed) → ¬ Contradicts facts
agree facts _ (reached closed n is) = n

known_whole : (known : Known) → list_all compares_two (facts_in known) ≡ true → AreAStore (facts_in known)
known_whole known two = record {
  proper = entries_proper (facts_in known) (entries_in known.table) two;
  apart = table_apart known.table;
  closed = (closed_of_test (facts_in known) known.holds.closed, agree (facts_in known) (facts_in known) (known_store known));
}

held_whole : (known : Option Known) (facts : List Fact) → stored_in known ≡ Reached facts → list_all compares_two facts ≡ true → AreAStore facts
held_whole None facts is two = absurd cc
held_whole (Some known) facts is two =
    let same : facts_in known ≡ facts = cc in
    subst AreAStore same (known_whole known (subst (λ l. list_all compares_two l ≡ true) (sym same) two))

-- Where none of a store's facts compares an int with itself, they are all facts of a store as anyone may write them down.
pub own_facts : (store : Store) (facts : List Fact) → stored store ≡ Reached facts → list_all compares_two facts ≡ true → AreAStore facts
own_facts store facts is two = held_whole store.known facts is two
