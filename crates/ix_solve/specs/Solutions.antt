-- Solutions of equations over a lattice, and the least of them. An equation asks that its label is high
-- enough, by all labels: `Asks at labels label`. Whether a least such label exists need not be known.
use Rattle.std.specs.Prelude.{◌≡◌, ◌↔◌, ℕ, List, [], ◌∷◌, length, slice_get, Some}
use Rattle.std.specs.List.{AllZip}

-- below every value
abbrev pub IsBottom : {V : Type 0} → (V → V → Type 0) → V → Type 0
IsBottom {V} Below bottom = (value : V) → Below bottom value

-- each label is below every value
abbrev pub AreBottom : {V : Type 0} → (V → V → Type 0) → List V → Type 0
AreBottom Below [] = Unit {0}
AreBottom Below (label ∷ labels) = IsBottom Below label × AreBottom Below labels

-- what is high enough for an equation at labels is so at lower labels, and so is what is above it
abbrev pub IsMonotone : {V : Type 0} → (V → V → Type 0) → (ℕ → List V → V → Type 0) → Type 0
IsMonotone {V} Below Asks = (at : ℕ) (a b : List V) (v w : V) → AllZip Below a b → Asks at b v → Below v w → Asks at a w

-- high enough, and below all that is
abbrev pub IsLeastOf : {V : Type 0} → (V → V → Type 0) → (V → Type 0) → V → Type 0
IsLeastOf {V} Below IsEnough value = IsEnough value × ((other : V) → IsEnough other → Below value other)

-- Values are ordered as what they say: `SaysAll` is the order of what is said.
pub record OrdersBy {V M : Type 0} (Below : V → V → Type 0) (SaysAll : M → M → Type 0) (meaning : V → M) : Type 0 where
  pub same : (a b : V) → Below a b ↔ SaysAll (meaning a) (meaning b)
  pub reflexive : (said : M) → SaysAll said said

module _ {V : Type 0} (Below : V → V → Type 0) (size : ℕ) (Asks : ℕ → List V → V → Type 0) where
  -- There is a label for each equation, and it is high enough for its equation at the labels: a post-fixed
  -- point of the equations (Nielson, Nielson and Hankin, Principles of Program Analysis, A.4).
  pub record IsSolution (labels : List V) : Type 0 where
    pub len : length labels ≡ size
    pub above : (at : ℕ) (label : V) → slice_get labels at ≡ Some label → Asks at labels label

  -- below every solution, label by label
  abbrev pub IsLeast : List V → Type 0
  IsLeast labels = (other : List V) → IsSolution other → AllZip Below labels other

-- two least solutions are each below the other, label by label, so they count as equal
pub one_least_solution : {V : Type 0} (Below : V → V → Type 0) (size : ℕ) (Asks : ℕ → List V → V → Type 0) (a b : List V)
    → IsSolution Below size Asks a → IsLeast Below size Asks a → IsSolution Below size Asks b → IsLeast Below size Asks b → AllZip Below a b × AllZip Below b a
one_least_solution Below size Asks a b solution_a least_a solution_b least_b = (least_a b solution_b, least_b a solution_a)
