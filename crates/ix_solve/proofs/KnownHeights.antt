-- The least heights of the example's chain.
use Rattle.std.proofs.Common.{◌≡◌, ℕ, zero, suc, ◌-◌, List, [], ◌∷◌, slice_get, Some, map, arith, refl, ap, sym, ◌∙◌, subst}
use Rattle.ix_solve.specs.Solutions.{IsBottom, IsSolution, IsLeast}
use Rattle.ix_solve.specs.Readers.{readings}
use Rattle.ix_solve.specs.Chain.{HeightBelow, height_rank, chain_readers, ChainAsks}
use Rattle.ix_solve.specs.declared.chain.Height.{Height}

-- heights at which every node is as high as the first
pub all_alike : (first : Height) → IsSolution HeightBelow 4 (ChainAsks first) (first ∷ first ∷ first ∷ first ∷ [])
all_alike first = record { len = refl; above = above_of }
  where
    above_of : (at : ℕ) (label : Height) → slice_get (first ∷ first ∷ first ∷ first ∷ []) at ≡ Some label → ChainAsks first at (first ∷ first ∷ first ∷ first ∷ []) label
    above_of zero label f = let is : first ≡ label = cc in subst (HeightBelow first) is (omega arith)
    above_of (suc zero) label f = let is : first ≡ label = cc in (first, refl, subst (HeightBelow first) is (omega arith))
    above_of (suc (suc zero)) label f = let is : first ≡ label = cc in (first, refl, subst (HeightBelow first) is (omega arith))
    above_of (suc (suc (suc zero))) label f = let is : first ≡ label = cc in (first, refl, subst (HeightBelow first) is (omega arith))
    above_of (suc (suc (suc (suc at)))) label f = cc

-- the least solution is that one
pub known_heights : (first : Height) (labels : List Height) → IsSolution HeightBelow 4 (ChainAsks first) labels → IsLeast HeightBelow 4 (ChainAsks first) labels
    → map (λ label. label.value) labels ≡ first.value ∷ first.value ∷ first.value ∷ first.value ∷ []
known_heights first [] solution least = absurd (omega (arith, solution.len))
known_heights first (a ∷ []) solution least = absurd (omega (arith, solution.len))
known_heights first (a ∷ b ∷ []) solution least = absurd (omega (arith, solution.len))
known_heights first (a ∷ b ∷ c ∷ []) solution least = absurd (omega (arith, solution.len))
known_heights first (a ∷ b ∷ c ∷ d ∷ e ∷ labels) solution least = absurd (omega (arith, solution.len))
known_heights first (a ∷ b ∷ c ∷ d ∷ []) solution least =
    let high = least (first ∷ first ∷ first ∷ first ∷ []) (all_alike first) in
    let at_0 = solution.above 0 a refl in
    let at_1 = solution.above 1 b refl in
    let at_2 = solution.above 2 c refl in
    let at_3 = solution.above 3 d refl in
    let from_1 : a ≡ at_1.0 = let f = at_1.1 in cc in
    let from_2 : b ≡ at_2.0 = let f = at_2.1 in cc in
    let from_3 : c ≡ at_3.0 = let f = at_3.1 in cc in
    let a_is : a.value ≡ first.value = omega (arith, high.0, at_0) in
    let b_is : b.value ≡ first.value = omega (arith, high.1.0, at_1.2, ap (λ (h : Height). h.value) from_1, a_is) in
    let c_is : c.value ≡ first.value = omega (arith, high.1.1.0, at_2.2, ap (λ (h : Height). h.value) from_2, b_is) in
    let d_is : d.value ≡ first.value = omega (arith, high.1.1.1.0, at_3.2, ap (λ (h : Height). h.value) from_3, c_is) in
    cc

-- a height below every height
abbrev pub lowest : Height
lowest = record { value = 0; small = omega arith }

pub lowest_is_bottom : IsBottom HeightBelow lowest
lowest_is_bottom value = omega arith

-- three labels that are read by one node each have risen by one
pub known_readings : (labels : List Height) → map (λ label. label.value) labels ≡ 1 ∷ 1 ∷ 1 ∷ 1 ∷ [] → readings height_rank 5 chain_readers labels ≡ 3
known_readings [] is = cc
known_readings (a ∷ []) is = cc
known_readings (a ∷ b ∷ []) is = cc
known_readings (a ∷ b ∷ c ∷ []) is = cc
known_readings (a ∷ b ∷ c ∷ d ∷ e ∷ labels) is = cc
known_readings (a ∷ b ∷ c ∷ d ∷ []) is =
    let a_is : a.value ≡ 1 = cc in
    let b_is : b.value ≡ 1 = cc in
    let c_is : c.value ≡ 1 = cc in
    omega (arith, a_is, b_is, c_is)

-- the height of the node before is the least that is high enough
pub neighbour_least : (first : Height) (at : ℕ) (labels : List Height) (v : Height) → (at ≡ 0 → ⊥) → slice_get labels (at - 1) ≡ Some v
    → ChainAsks first at labels v × ((other : Height) → ChainAsks first at labels other → HeightBelow v other)
neighbour_least first zero labels v differs found = absurd (differs refl)
neighbour_least first (suc at) labels v differs found =
    let e : suc at - 1 ≡ at = omega arith in
    let here : slice_get labels at ≡ Some v = subst (λ n. slice_get labels n ≡ Some v) e found in
    ((v, here, omega arith), λ other says. let both : Some v ≡ Some says.0 = sym here ∙ says.1 in let is : v ≡ says.0 = cc in subst (λ h. HeightBelow h other) (sym is) says.2)

abbrev pub height_one : Height
height_one = record { value = 1; small = omega arith }
