-- The order of stores is a preorder, and each strict rise lowers the rank.
use Rattle.std.specs.Prelude.{◌≡◌, ℕ, ◌+◌, ◌*◌, ◌^◌, ◌<◌, ◌≤◌, Bool, true, false, cond, ◌||◌, ℤ, pos, negsuc, ◌≤ℤ◌, ◌-ℤ◌, int_lt, unsigned_abs, List, [], ◌∷◌, length, Option, Some, None, refl}
use Rattle.std.specs.Ordering.{eq_by_cmp}
use Rattle.std.proofs.Common.{arith, inl, inr, ap, ◌∙◌, ⊎_elim}
use Rattle.std.proofs.lemmas.Int.{ints, clamps}
use Rattle.ix_num.specs.Ints.{least_int, greatest_int}
use Rattle.ix_lattice.specs.Lattice.{LatticeLaws, IsJoin}
use Rattle.ix_lattice.specs.FactMap.{rank_unseen}
use Rattle.ix_core.specs.declared.fact.Fact.{Fact}
use Rattle.ix_core.specs.declared.fact.Fact.TheVariants.{Rng, LenRng, Low, Same, IsLen, Less, Sum, Search, Neg, Upper}
use Rattle.ix_facts.specs.Facts.{IsIn}
use Rattle.ix_facts.specs.Stores.{Stored, IsBelow, IsJoined, left, right, both}
use Rattle.ix_facts.proofs.StoreLaws.{below_itself, below_below, joined_least}
use Rattle.ix_fact_table.specs.declared.fact_table.FactTable.{FactTable}
use Rattle.ix_fact_table.specs.FactOrder.{fact_cmp}
use Rattle.ix_fact_table.specs.FactTables.{facts_of, table_rank, low_within, high_within, numbers_rank, keyed}
use Rattle.ix_fact_table.specs.Entries.{has_ends}
use Rattle.ix_fact_table.specs.MeetLaws.{entry_parts, two_ends}
use Rattle.ix_fact_table.specs.RisingLaws.{table_each}
use Rattle.ix_fact_table.specs.TableLaws.{table_laws, above_left, above_right}
use Rattle.ix_core.proofs.Cases.{by_test}
use Rattle.ix_facts.proofs.Tests.{neither}
use Rattle.ix_store.specs.declared.known.Known.{Known}
use Rattle.ix_store.specs.declared.store.Store.{Store}
use Rattle.ix_store.specs.EmptyRanges.{is_empty, some_empty}
use Rattle.ix_store.specs.StoredFacts.{facts_in, stored_in, stored}
use Rattle.ix_store.specs.StoreOrder.{StoreBelow, top_rank, known_rank, store_rank}

-- ---- how large the rank of a table can be

-- of a fact whose ends are ints, and that is no empty range
ends_small : (l h : ℤ) → least_int ≤ℤ l → l ≤ℤ greatest_int → least_int ≤ℤ h → h ≤ℤ greatest_int → unsigned_abs (low_within l -ℤ least_int) + unsigned_abs (greatest_int -ℤ high_within h) < 2 ^ 34
ends_small l h a b c d = omega (arith, ints, clamps, a, b, c, d)

full_ends : (l h : ℤ) → int_lt h l ≡ false → l ≤ℤ h
full_ends l h full = grind (arith, ints, full)

zero_low : least_int ≤ℤ pos 0
zero_low = omega (arith, ints)

zero_high : pos 0 ≤ℤ greatest_int
zero_high = omega (arith, ints)

pub numbers_small : (f : Fact) → has_ends f ≡ true → is_empty f ≡ false → numbers_rank f < 2 ^ 34
numbers_small (Rng p l h) ends full =
    let x = two_ends least_int greatest_int l h ends in
    let y = full_ends l h full in
    ends_small l h x.0 (omega (arith, ints, x.1, y)) (omega (arith, ints, x.0, y)) x.1
numbers_small (LenRng a l h) ends full =
    let x = two_ends (pos 0) greatest_int l h ends in
    let y = full_ends l h full in
    ends_small l h (omega (arith, ints, x.0)) (omega (arith, ints, x.1, y)) (omega (arith, ints, x.0, y)) x.1
numbers_small (Low p c) ends full =
    let x = two_ends (negsuc 0) (pos 1) c c ends in
    ends_small c (pos 0) (omega (arith, ints, x.0)) (omega (arith, ints, x.1)) zero_low zero_high
numbers_small (Same a b) ends full = ends_small (pos 0) (pos 0) zero_low zero_high zero_low zero_high
numbers_small (IsLen p a) ends full = ends_small (pos 0) (pos 0) zero_low zero_high zero_low zero_high
numbers_small (Less p q c) ends full =
    let x = two_ends least_int greatest_int c c ends in
    ends_small (pos 0) c zero_low zero_high x.0 x.1
numbers_small (Sum t y z) ends full = ends_small (pos 0) (pos 0) zero_low zero_high zero_low zero_high
numbers_small (Search p a) ends full = ends_small (pos 0) (pos 0) zero_low zero_high zero_low zero_high
numbers_small (Neg p a) ends full = ends_small (pos 0) (pos 0) zero_low zero_high zero_low zero_high
numbers_small (Upper p a o c) ends full =
    let x = two_ends least_int greatest_int c c ends in
    ends_small c (pos 0) x.0 x.1 zero_low zero_high

-- where the number of each fact is below a limit, the facts' rank is at most the limit for each
unseen_within : (eq : Fact → Fact → Bool) (limit : ℕ) (facts : List Fact) (seen : Fact → Bool) → ((f : Fact) → IsIn f facts → numbers_rank f < limit) → rank_unseen eq numbers_rank seen (keyed facts) ≤ length facts * limit
unseen_within eq limit [] seen all = omega arith
unseen_within eq limit (f ∷ facts) seen all =
    let rest = λ (s : Fact → Bool). unseen_within eq limit facts s (λ g i. all g (inr i)) in
    by_test (seen f)
    (λ t. let r = rest seen in let is = ap (λ b. cond b (rank_unseen eq numbers_rank seen (keyed facts)) (1 + numbers_rank f + rank_unseen eq numbers_rank (λ key. eq f key || seen key) (keyed facts))) t in omega (arith, r, is))
    (λ t.
    let r = rest (λ key. eq f key || seen key) in
    let one = all f (inl refl) in
    let is = ap (λ b. cond b (rank_unseen eq numbers_rank seen (keyed facts)) (1 + numbers_rank f + rank_unseen eq numbers_rank (λ key. eq f key || seen key) (keyed facts))) t in
    omega (arith, r, is, one))

table_within : (table : FactTable) → ((f : Fact) → IsIn f (facts_of table) → is_empty f ≡ false) → table_rank table ≤ length (facts_of table) * (2 ^ 34)
table_within table full =
    unseen_within (eq_by_cmp fact_cmp) (2 ^ 34) (facts_of table) (λ _. false) (λ f i. numbers_small f (entry_parts f (table_each table.kind (facts_of table) table.form f i).1).ends (full f i))

-- no range of a list without empty ranges is empty
pub each_full : (facts : List Fact) (f : Fact) → some_empty facts ≡ false → IsIn f facts → is_empty f ≡ false
each_full [] f full i = absurd i
each_full (g ∷ facts) f full i =
    let parts = neither (is_empty g) (some_empty facts) full in
    ⊎_elim (λ e. ap is_empty e ∙ parts.0) (λ j. each_full facts f parts.1 j) i

-- ---- the order

small_rank : (known : Known) → table_rank known.table < top_rank
small_rank known =
    let within = table_within known.table (λ f i. each_full (facts_in known) f known.holds.full i) in
    let few = known.holds.few in
    omega (arith, within, few)

falls_by : (a b : Option Known) → IsBelow (stored_in a) (stored_in b) → known_rank b ≤ known_rank a
falls_by None None below = omega arith
falls_by None (Some b) below = omega (arith, small_rank b)
falls_by (Some a) None below = absurd below
falls_by (Some a) (Some b) below = table_laws.falls a.table b.table below

level_by : (a b : Option Known) → IsBelow (stored_in a) (stored_in b) → known_rank a ≤ known_rank b → IsBelow (stored_in b) (stored_in a)
level_by None None below same = tt
level_by None (Some b) below same = absurd (omega (arith, small_rank b, same))
level_by (Some a) None below same = absurd below
level_by (Some a) (Some b) below same = table_laws.level a.table b.table below same

pub store_laws : LatticeLaws StoreBelow store_rank
store_laws = record {
  reflexive = λ a. below_itself (stored a);
  transitive = λ a b c. below_below (stored a) (stored b) (stored c);
  falls = λ a b. falls_by a.known b.known;
  level = λ a b. level_by a.known b.known;
}

-- ---- joins

join_left : (s t j : Stored) → IsJoined s t j → IsBelow s j
join_left _ _ j (left s _ same) = same.1
join_left _ _ j (right s _ same) = tt
join_left _ _ _ (both x y c is) = above_left x y c is

join_right : (s t j : Stored) → IsJoined s t j → IsBelow t j
join_right _ _ j (left s _ same) = tt
join_right _ _ j (right s _ same) = same.1
join_right _ _ _ (both x y c is) = above_right x y c is

pub is_join : (a b join : Store) → IsJoined (stored a) (stored b) (stored join) → IsJoin StoreBelow a b join
is_join a b join joined = record {
  left = join_left (stored a) (stored b) (stored join) joined;
  right = join_right (stored a) (stored b) (stored join) joined;
  least = λ other. joined_least (stored a) (stored b) (stored join) (stored other) joined;
}
