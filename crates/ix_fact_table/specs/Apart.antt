-- Facts of which no two are at one key, in whichever of its orders each stands.
use Rattle.std.specs.Prelude.{Bool, true, not, ◌&&◌, List, [], ◌∷◌, map}
use Rattle.std.specs.List.{IsDistinct}
use Rattle.std.specs.Ordering.{eq_by_cmp, is_lt}
use Rattle.ix_core.specs.declared.fact.Fact.{Fact}
use Rattle.ix_core.specs.declared.fact.Fact.TheVariants.{Less}
use Rattle.ix_facts.specs.Bounds.{is_path}
use Rattle.ix_facts.specs.Facts.{is_default}
use Rattle.ix_fact_table.specs.Entries.{in_first_order, has_ends}
use Rattle.ix_fact_table.specs.FactOrder.{fact_cmp}

-- Of two facts at one key the first orders have the same paths.
abbrev pub AreApart : List Fact → Type 0
AreApart facts = IsDistinct (eq_by_cmp fact_cmp) (map in_first_order facts)

-- each key is less than the next one, and the first greater than that of the fact
abbrev pub rise_from : Fact → List Fact → Bool
rise_from last [] = true
rise_from last (key ∷ keys) = is_lt (fact_cmp last key) && rise_from key keys

abbrev pub all_rise : List Fact → Bool
all_rise [] = true
all_rise (key ∷ keys) = rise_from key keys

-- ---- facts that may stand in a store as they are

-- a difference is one of two ints
abbrev pub compares_two : Fact → Bool
compares_two (Less p q c) = not (is_path p q)
compares_two f = true

-- The fact tells something, its numbers may stand in a table, and it compares no int with itself.
abbrev pub is_proper : Fact → Bool
is_proper f = has_ends f && (not (is_default f) && compares_two f)
