-- The order of whole numbers under `*`: a product lies between the products of the ends.
use Rattle.std.proofs.Common.{ℕ, suc, ℤ, pos, negsuc, ◌*ℤ◌, ◌≤ℤ◌, arith}
use Rattle.std.proofs.Math.Nat.{mul-le-mul_right}
use Rattle.std.proofs.Math.IntN.{*ℤ_comm}
use Rattle.std.proofs.lemmas.Int.{ints, clamps}
use borrow.Author.Differences.{le_out}
use Rattle.ix_num.specs.Intervals.{Includes}
use Rattle.ix_num.specs.OpRanges.{hull_of_two}

-- a product by a natural keeps the order
pub product_up : (a b : ℤ) (n : ℕ) → a ≤ℤ b → (a *ℤ pos n) ≤ℤ (b *ℤ pos n)
product_up a b n h = omega (arith, ints, mul-le-mul_right n (le_out a b h))

-- a product by a negative number turns it round
pub product_down : (a b : ℤ) (n : ℕ) → a ≤ℤ b → (b *ℤ negsuc n) ≤ℤ (a *ℤ negsuc n)
product_down a b n h = omega (arith, ints, mul-le-mul_right (suc n) (le_out a b h))

pub product_between_left : (a b x y : ℤ) → a ≤ℤ x → x ≤ℤ b → Includes (hull_of_two (a *ℤ y) (b *ℤ y)) (x *ℤ y)
product_between_left a b x (pos n) from to =
    let p = product_up a x n from in
    let q = product_up x b n to in
    record { from = omega (arith, ints, clamps); to = omega (arith, ints, clamps) }
product_between_left a b x (negsuc n) from to =
    let p = product_down a x n from in
    let q = product_down x b n to in
    record { from = omega (arith, ints, clamps); to = omega (arith, ints, clamps) }

pub product_between_right : (c d x y : ℤ) → c ≤ℤ y → y ≤ℤ d → Includes (hull_of_two (x *ℤ c) (x *ℤ d)) (x *ℤ y)
product_between_right c d x y from to =
    let turned : Includes (hull_of_two (c *ℤ x) (d *ℤ x)) (y *ℤ x) = product_between_left c d y x from to in
    simp (*ℤ_comm x) turned
