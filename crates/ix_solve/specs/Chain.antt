-- The example's problem: heights from 0 to 5, and what each of four nodes in a chain reads.
use Rattle.std.specs.Prelude.{◌≡◌, ℕ, ◌-◌, ◌≤◌, List, [], ◌∷◌, slice_get, Some}
use Rattle.std.proofs.Common.{zero, suc}
use Rattle.ix_solve.specs.declared.chain.Height.{Height}

-- the order of the numbers
abbrev pub HeightBelow : Height → Height → Type 0
HeightBelow a b = a.value ≤ b.value

abbrev pub height_rank : Height → ℕ
height_rank a = 5 - a.value

-- each node but the last is read by the one after it
abbrev pub chain_readers : List (List ℕ)
chain_readers = (1 ∷ []) ∷ (2 ∷ []) ∷ (3 ∷ []) ∷ [] ∷ []

-- node 0 is at least at the first height, and each other node at least as high as the one before it
abbrev pub ChainAsks : Height → ℕ → List Height → Height → Type 0
ChainAsks first zero labels value = HeightBelow first value
ChainAsks first (suc at) labels value = (left : Height) × (slice_get labels at ≡ Some left) × HeightBelow left value
