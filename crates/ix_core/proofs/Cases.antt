-- Proofs by the answers of tests.
use Rattle.std.specs.Prelude.{◌≡◌, ◌≢◌, ℕ, ◌==◌, Bool, true, false, refl}
use Rattle.std.proofs.Common.{arith}
use Rattle.std.proofs.lemmas.Bool.Decides.{nat_tests}

-- a proof by the two answers of a test
pub by_test : {G : Type 0} (t : Bool) → (t ≡ true → G) → (t ≡ false → G) → G
by_test true first second = first refl
by_test false first second = second refl

pub differ : (s t : ℕ) → (s == t) ≡ false → s ≢ t
differ s t e = grind (arith, nat_tests)

pub equal : (s t : ℕ) → (s == t) ≡ true → s ≡ t
equal s t e = grind (arith, nat_tests)
