-- Where an index is known to be inside an array, neither claim of an access is refused.
use Rattle.std.proofs.Common.{◌≡◌, ℕ, true, [], Option, Some, None, arith, refl}
use Rattle.std.specs.Prelude.{ℤ, pos, ◌≤ℤ◌}
use Rattle.std.specs.Int.{int_max}
use Rattle.std.proofs.lemmas.Int.{ints, clamps}
use Rattle.ix_core.specs.declared.fact.Path.TheVariants.{Slot}
use Rattle.ix_core.specs.declared.fact.PathClaim.TheVariants as path_claim
use Rattle.ix_core.specs.declared.fact.PathOff.TheVariants.{Nothing}
use Rattle.ix_facts.specs.Bounds
use Rattle.ix_facts.specs.Bounds.{best}
use Rattle.ix_facts.specs.AfterOperation.{reaches}
use Rattle.ix_facts.specs.PathOrder.{path_itself}
use Rattle.ix_facts.proofs.Tests.{at_most_is}
use Rattle.ix_facts.specs.Stores.{Reached, IsProved}
use Rattle.ix_guard_promise.specs.KnownFacts.{inside_facts}

pub low_proved : (array index : ℕ) → IsProved (path_claim.Low (pos 0)) (Slot index) (Reached (inside_facts array index))
low_proved array index = rw (path_itself (Slot index)) refl

-- there is a number, and it is at least 0
abbrev FromZero : Option ℤ → Type 0
FromZero None = ⊥
FromZero (Some n) = pos 0 ≤ℤ n

best_from : (first other : Option ℤ) → FromZero first → FromZero (best int_max first other)
best_from None other from = absurd from
best_from (Some n) None from = from
best_from (Some n) (Some m) from = omega (arith, ints, clamps)

from_reaches : (found : Option ℤ) → FromZero found → reaches [] found (pos 0) ≡ true
from_reaches None from = absurd from
from_reaches (Some n) from = at_most_is (pos 0) n from

stored_from : (array index : ℕ) → FromZero (Bounds.stored_upper (inside_facts array index) (Slot index) (Slot array) Nothing)
stored_from array index = rw (path_itself (Slot index), path_itself (Slot array)) (omega (arith, ints))

pub high_proved : (array index : ℕ) → IsProved (path_claim.Upper (Slot array) Nothing (pos 0)) (Slot index) (Reached (inside_facts array index))
high_proved array index = from_reaches _ (best_from _ _ (best_from _ _ (stored_from array index)))
