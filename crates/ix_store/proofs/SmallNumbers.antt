-- The facts of a table of which no range is empty have small numbers.
use Rattle.std.specs.Prelude.{◌≡◌, false, ◌≤ℤ◌, All, slice_index_or}
use Rattle.std.proofs.Common.{arith}
use Rattle.std.proofs.lemmas.Int.{ints}
use Rattle.ix_core.specs.declared.fact.Fact.{Fact}
use Rattle.ix_core.specs.declared.fact.Fact.TheVariants.{Rng, LenRng, Low, Same, IsLen, Less, Sum, Search, Neg, Upper}
use Rattle.ix_facts.specs.Facts.{IsIn}
use Rattle.ix_facts.specs.Small.{HasSmallNumbers}
use Rattle.ix_facts.specs.Systems.{MayStand, HaveClasses}
use Rattle.ix_fact_table.specs.declared.fact_table.FactTable.{FactTable}
use Rattle.ix_fact_table.specs.FactTables.{facts_of}
use Rattle.ix_fact_table.specs.TableLaws.{all_may}
use Rattle.ix_fact_table.proofs.KeySearches.{in_place}
use Rattle.ix_store.specs.EmptyRanges.{is_empty, some_empty}
use Rattle.ix_store.specs.StoreLaws.{each_full}

-- the fact is no range, or one whose low end isn't above its high end
small_one : (f : Fact) → MayStand f → is_empty f ≡ false → HasSmallNumbers f
small_one (Rng p l h) may n =
    let full : l ≤ℤ h = grind (arith, ints, n) in
    let ends = may.ends full in
    (record { above = omega (arith, ints, ends.0); below = omega (arith, ints, ends.1, full) }, record { above = omega (arith, ints, ends.0, full); below = omega (arith, ints, ends.1) })
small_one (LenRng p l h) may n =
    let full : l ≤ℤ h = grind (arith, ints, n) in
    let ends = may.ends full in
    (record { above = omega (arith, ints, ends.0); below = omega (arith, ints, ends.1, full) }, record { above = omega (arith, ints, ends.0, full); below = omega (arith, ints, ends.1) })
small_one (Low p c) may n = may.class
small_one (Same a b) may n = tt
small_one (IsLen p a) may n = tt
small_one (Less p q c) may n = tt
small_one (Sum t y z) may n = tt
small_one (Search p a) may n = tt
small_one (Neg p a) may n = tt
small_one (Upper p a o c) may n = tt

pub all_classes : (table : FactTable) → HaveClasses (facts_of table)
all_classes table f i = (all_may table f i).class

module _ (table : FactTable) (full : some_empty (facts_of table) ≡ false) where
  pub small : (f : Fact) → IsIn f (facts_of table) → HasSmallNumbers f
  small f i = small_one f (all_may table f i) (each_full (facts_of table) f full i)

  pub all_small : All HasSmallNumbers (facts_of table)
  all_small k d lt = small (slice_index_or (facts_of table) k d) (in_place (facts_of table) k d lt)
