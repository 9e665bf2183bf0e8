-- The example keeps the laws.
use Rattle.std.specs.Prelude.{◌≡◌, ℕ, List, [], ◌∷◌, slice_get, Some, Contains}
use Rattle.std.specs.List.{AllZip}
use Rattle.std.proofs.Common.{zero, suc, arith, sym, ◌∙◌, refl, subst}
use Rattle.ix_lattice.specs.Lattice.{LatticeLaws}
use Rattle.ix_solve.specs.Readers.{DependsOnRead}
use Rattle.ix_solve.specs.Solutions.{IsMonotone, OrdersBy}
use Rattle.ix_solve.specs.Chain.{HeightBelow, height_rank, chain_readers, ChainAsks}
use Rattle.ix_solve.specs.declared.chain.Height.{Height}

pub height_laws : LatticeLaws HeightBelow height_rank
height_laws = record {
  reflexive = λ a. omega arith;
  transitive = λ a b c p q. omega arith;
  falls = λ a b p. omega arith;
  level = λ a b p h. omega (arith, a.small, b.small);
}

-- a height says itself
pub height_order : OrdersBy HeightBelow HeightBelow (λ height. height)
height_order = record { same = λ a b. (λ below. below, λ below. below); reflexive = height_laws.reflexive }

below_at : (a b : List Height) (i : ℕ) (w : Height) → AllZip HeightBelow a b → slice_get b i ≡ Some w → (v : Height) × (slice_get a i ≡ Some v) × HeightBelow v w
below_at [] [] i w zip g = cc
below_at [] (y ∷ b) i w zip g = absurd zip
below_at (x ∷ a) [] i w zip g = absurd zip
below_at (x ∷ a) (y ∷ b) zero w zip g = let y_is : y ≡ w = cc in (x, refl, subst (HeightBelow x) y_is zip.0)
below_at (x ∷ a) (y ∷ b) (suc i) w zip g = below_at a b i w zip.1 g

pub chain_monotone : (first : Height) → IsMonotone HeightBelow (ChainAsks first)
chain_monotone first zero a b v w zip g below = omega arith
chain_monotone first (suc at) a b v w zip (left, found, under) below = let r = below_at a b at left zip found in (r.0, r.1, omega (arith, r.2))

only_reader : (node : ℕ) → Contains (node ∷ []) node
only_reader node = (0, omega arith, refl)

pub chain_depends : (first : Height) → DependsOnRead chain_readers (ChainAsks first)
chain_depends first zero a b v within agree f = f
chain_depends first (suc zero) a b v within agree (left, found, under) = (left, sym (agree 0 (1 ∷ []) refl (only_reader 1)) ∙ found, under)
chain_depends first (suc (suc zero)) a b v within agree (left, found, under) = (left, sym (agree 1 (2 ∷ []) refl (only_reader 2)) ∙ found, under)
chain_depends first (suc (suc (suc zero))) a b v within agree (left, found, under) = (left, sym (agree 2 (3 ∷ []) refl (only_reader 3)) ∙ found, under)
chain_depends first (suc (suc (suc (suc at)))) a b v within agree f = absurd (omega arith)
