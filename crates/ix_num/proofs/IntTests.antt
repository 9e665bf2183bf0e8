-- The code's tests of two ints decide the comparisons.
use Rattle.std.proofs.Common.{◌≡◌, ◌↔◌, ℤ, ◌<ℤ◌, ◌≤ℤ◌, not, eqb, arith, FitsSigned, of_z}
use Rattle.std.specs.Prelude.{IsTrue, int_lt, int_le, ◌≢◌}
use Rattle.std.specs.Int.{w32}
use Rattle.std.proofs.lemmas.Int.{ints}
use Rattle.std.proofs.lemmas.Bool.Decides.{nat_tests}

pub less_decides : (x y : ℤ) → IsTrue (int_lt x y) ↔ (x <ℤ y)
less_decides x y = (λ h. grind (arith, ints), λ h. grind (arith, ints))

pub at_most_decides : (x y : ℤ) → IsTrue (int_le x y) ↔ (x ≤ℤ y)
at_most_decides x y = (λ h. grind (arith, ints), λ h. grind (arith, ints))

pub same_decides : (x y : ℤ) → FitsSigned w32 x → FitsSigned w32 y → IsTrue (eqb (of_z w32 x) (of_z w32 y)) ↔ (x ≡ y)
same_decides x y p q = (λ h. grind (arith, ints, nat_tests), λ h. grind (arith, ints, nat_tests))

pub differ_decides : (x y : ℤ) → FitsSigned w32 x → FitsSigned w32 y → IsTrue (not (eqb (of_z w32 x) (of_z w32 y))) ↔ (x ≢ y)
differ_decides x y p q = (λ h. grind (arith, ints, nat_tests), λ h. grind (arith, ints, nat_tests))
