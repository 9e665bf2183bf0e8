-- Ints fit the types that they are read into.
use Rattle.std.specs.Prelude.{◌≡◌, ◌<◌, ◌^◌, ℤ, pos, negsuc}
use Rattle.std.proofs.Common.{arith, ap, ◌∙◌, FitsSigned, w32, w64, to_z, of_z}
use Rattle.std.proofs.lemmas.Int.{ints, to_z-of_z}
use Rattle.ix_num.specs.Ints.{IsInt}
use lib.Signed.{mag}

pub int_small : (n : ℤ) → IsInt n → mag n < 2 ^ 63
int_small (pos n) int = omega (arith, ints, int.to)
int_small (negsuc n) int = omega (arith, ints, int.from)

int_mag : (n : ℤ) → IsInt n → mag n < 2 ^ 31
int_mag (pos n) int = omega (arith, ints, int.to)
int_mag (negsuc n) int = omega (arith, ints, int.from)

pub fits_w32 : (n : ℤ) → IsInt n → FitsSigned w32 n
fits_w32 n int = record { sfits = int_mag n int }

pub fits_w64 : (n : ℤ) → IsInt n → FitsSigned w64 n
fits_w64 n int = record { sfits = int_small n int }

-- an int that was read, as its type has it
pub read_w32 : (m n : ℤ) → IsInt n → m ≡ n → to_z w32 (of_z w32 m) ≡ n
read_w32 m n int is = ap (λ k. to_z w32 (of_z w32 k)) is ∙ to_z-of_z w32 n (fits_w32 n int)

pub read_w64 : (m n : ℤ) → IsInt n → m ≡ n → to_z w64 (of_z w64 m) ≡ n
read_w64 m n int is = ap (λ k. to_z w64 (of_z w64 k)) is ∙ to_z-of_z w64 n (fits_w64 n int)
