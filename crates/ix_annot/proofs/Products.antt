-- A product of two numbers below 2^63 is below 2^126.
use Rattle.std.specs.Prelude.{ℕ, ◌*◌, ◌<◌, ◌^◌}
use Rattle.std.proofs.Common.{arith}
use Rattle.std.proofs.lemmas.Nat.{mul-lt}

pub product_fits : (a b : ℕ) → a < 2 ^ 63 → b < 2 ^ 63 → a * b < 2 ^ 128
product_fits a b x y = let h = mul-lt a b (2 ^ 63) (2 ^ 63) x y in omega (arith, h)
