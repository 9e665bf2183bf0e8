-- What a table says, and the order of tables.
use Rattle.std.specs.Prelude.{ℕ, ◌+◌, ℤ, pos, ◌-ℤ◌, ◌≤ℤ◌, unsigned_abs, List, [], ◌∷◌}
use Rattle.std.specs.Int.{int_min, int_max}
use Rattle.ix_num.specs.Ints.{least_int, greatest_int}
use Rattle.ix_lattice.specs.FactMap.{facts_rank}
use Rattle.ix_core.specs.declared.fact.Fact.{Fact}
use Rattle.ix_core.specs.declared.fact.Fact.TheVariants.{Rng, LenRng, Low, Less, Upper}
use Rattle.ix_facts.specs.declared.kind.Kind.{Kind}
use Rattle.ix_facts.specs.Closure.{SaysAll}
use Rattle.ix_fact_table.specs.declared.fact_table.FactTable.{FactTable}
use Rattle.ix_fact_table.specs.FactOrder.{fact_cmp}

abbrev pub facts_of : FactTable → List Fact
facts_of table = table.facts

abbrev pub table_kind : FactTable → Kind
table_kind table = table.kind

-- A table is below another where it says all that the other says.
abbrev pub TableBelow : FactTable → FactTable → Type 0
TableBelow low high = SaysAll (facts_of low) (facts_of high)

-- ---- the rank

-- The numbers of a fact as two ends, of which a greater low end and a lesser high end say more. A fact without such an end has 0 there.
abbrev pub low_end : Fact → ℤ
low_end (Rng p l h) = l
low_end (LenRng a l h) = l
low_end (Low p c) = c
low_end (Upper p a o c) = c
low_end f = pos 0

abbrev pub high_end : Fact → ℤ
high_end (Rng p l h) = h
high_end (LenRng a l h) = h
high_end (Less p q c) = c
high_end f = pos 0

-- An end counts within the ints: a low one from the least int on, a high one to the greatest.
abbrev pub low_within : ℤ → ℤ
low_within n = int_max least_int n

abbrev pub high_within : ℤ → ℤ
high_within n = int_min n greatest_int

-- the numbers of the first fact say no less
abbrev pub NumbersBelow : Fact → Fact → Type 0
NumbersBelow f g = (low_within (low_end g) ≤ℤ low_within (low_end f)) × (high_within (high_end f) ≤ℤ high_within (high_end g))

-- how far the ends can still move outwards
abbrev pub numbers_rank : Fact → ℕ
numbers_rank f = unsigned_abs (low_within (low_end f) -ℤ least_int) + unsigned_abs (greatest_int -ℤ high_within (high_end f))

-- each fact with itself as the value at its key
abbrev pub keyed : List Fact → List (Fact × Fact)
keyed [] = []
keyed (f ∷ facts) = (f, f) ∷ keyed facts

-- Of each fact 1 and how far its ends can still move: to drop a fact or to weaken one lowers it.
abbrev pub table_rank : FactTable → ℕ
table_rank table = facts_rank fact_cmp numbers_rank (keyed (facts_of table))
