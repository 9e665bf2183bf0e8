-- What is known along a body that has guards, as facts.
use Rattle.std.specs.Prelude.{ℕ, pos, List, [], ◌∷◌}
use Rattle.ix_num.specs.Ints.{greatest_int}
use Rattle.ix_core.specs.declared.fact.Fact.{Fact}
use Rattle.ix_core.specs.declared.fact.Fact.TheVariants.{Rng, Upper}
use Rattle.ix_core.specs.declared.fact.Path.TheVariants.{Slot}
use Rattle.ix_core.specs.declared.fact.PathOff.TheVariants.{Nothing}
use Rattle.ix_facts.specs.Stores.{Stored, Unreachable, Reached}
use Rattle.ix_guard_promise.specs.Known.{Known, Nowhere, Unknown, Inside}

-- the two facts of a guard: `0 <= index`, and `index < array.length`
abbrev pub inside_facts : (array index : ℕ) → List Fact
inside_facts array index = Rng (Slot index) (pos 0) greatest_int ∷ Upper (Slot index) (Slot array) Nothing (pos 0) ∷ []

-- the store that says it
abbrev pub store_of : Known → Stored
store_of Nowhere = Unreachable
store_of Unknown = Reached []
store_of (Inside array index) = Reached (inside_facts array index)
