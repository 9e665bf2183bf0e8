-- How high places reach, one place more or less.
use Rattle.std.proofs.Common.{◌≡◌, refl, ℕ, ◌+◌, ◌<◌, ◌≤◌, List, [], ◌∷◌, ◌++◌, length, length-append, max, arith, Vec, vec_len, ap, Option, Some, None}
use Rattle.std.specs.Prelude.{MatchOption}
use Rattle.std.specs.declared.alloc.Global.{Global}
use Rattle.std.proofs.lemmas.Grind.{common_steps}
use Rattle.ix_machine_state.specs.declared.places.Place.{Place}
use Rattle.ix_machine_state.specs.declared.stack.Stack.{Stack}
use Rattle.ix_machine_state.specs.Fits.{above, values, reach, most_values, IsFree}

pub reach-snoc : (below : ℕ) (places : List Place) (place : Place) → reach below (places ++ place ∷ []) ≡ max (reach below places) (below + length places + 1 + above place)
reach-snoc below [] place = omega arith
reach-snoc below (first ∷ places) place = omega (arith, reach-snoc (below + 1) places place)

pub values-snoc : (places : List Place) (place : Place) → most_values (places ++ place ∷ []) ≡ max (most_values places) (values place)
values-snoc [] place = omega arith
values-snoc (first ∷ places) place = omega (arith, values-snoc places place)

-- so many places reach at least as high
pub reach-length : (below : ℕ) (places : List Place) → (places ≡ [] → ⊥) → below + length places ≤ reach below places
reach-length below [] some = absurd (some refl)
reach-length below (first ∷ []) some = omega arith
reach-length below (first ∷ second ∷ places) some = omega (arith, reach-length (below + 1) (second ∷ places) (λ e. cc))

-- a place less
pub shorter : (places before : List Place) (place : Place) → places ≡ before ++ place ∷ [] → length before < length places
shorter places before place is = omega (arith, ap length is, length-append before (place ∷ []))

pub shorter_same : (places before less : List Place) (place : Place) → places ≡ before ++ place ∷ [] → less ≡ before → length less < length places
shorter_same places before less place is same = omega (arith, ap length is, length-append before (place ∷ []), ap length same)

pub place_count : (places : Vec Place Global) → vec_len places ≡ length places.items
place_count places = grind (arith, common_steps)

-- what is left of a stack whose last place was taken away
pub popped : (stack : Stack) (places : Vec Place Global) (place : Option Place) → MatchOption place ((stack.places.items ≡ []) × (places.items ≡ [])) (λ place. stack.places.items ≡ places.items ++ place ∷ [])
    → (reach 0 places.items ≤ stack.room.places) × (most_values places.items ≤ stack.room.values)
popped stack places None is = (omega (arith, ap (reach 0) is.1), omega (arith, ap most_values is.1))
popped stack places (Some place) is =
    (omega (arith, stack.fits, ap (reach 0) is, reach-snoc 0 places.items place), omega (arith, stack.passes, ap most_values is, values-snoc places.items place))

pub popped_free : (stack : Stack) (places : List Place) (place : Place) → stack.places.items ≡ places ++ place ∷ [] → IsFree (length places) stack.room place
popped_free stack places place is = record {
  above = omega (arith, stack.fits, ap (reach 0) is, reach-snoc 0 places place);
  values = omega (arith, stack.passes, ap most_values is, values-snoc places place);
}
