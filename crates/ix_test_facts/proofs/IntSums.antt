-- The sum of two ints less 2 fits 64 bits, so that the code's number is the whole number.
use Rattle.std.specs.Prelude.{◌≡◌, ℤ, pos, ◌+ℤ◌, ◌-ℤ◌}
use Rattle.std.proofs.Common.{ap, ◌∙◌, arith, w32, w64, to_z, of_z, FitsSigned}
use Rattle.std.proofs.lemmas.Int.{ints, to_z-of_z}
use Rattle.ix_facts.specs.Small.{IsLimit}

abbrev kept : ℤ → ℤ
kept n = to_z w64 (of_z w64 n)

int_kept : (x : ℤ) → FitsSigned w32 x → kept (to_z w32 (of_z w32 x)) ≡ x
int_kept x p = ap kept (to_z-of_z w32 x p) ∙ to_z-of_z w64 x (omega (arith, ints))

pub sum_limit : (c k : ℤ) → FitsSigned w32 c → FitsSigned w32 k → IsLimit (c +ℤ k -ℤ pos 2)
sum_limit c k p q = record { above = omega (arith, ints); below = omega (arith, ints) }

pub sum_is : (c k : ℤ) → FitsSigned w32 c → FitsSigned w32 k → kept (kept (kept (to_z w32 (of_z w32 c)) +ℤ kept (to_z w32 (of_z w32 k))) -ℤ pos 2) ≡ c +ℤ k -ℤ pos 2
sum_is c k p q =
    ap (λ n. kept (n -ℤ pos 2)) ((λ i. kept (int_kept c p i +ℤ int_kept k q i)) ∙ to_z-of_z w64 (c +ℤ k) (omega (arith, ints)))
    ∙ to_z-of_z w64 (c +ℤ k -ℤ pos 2) (omega (arith, ints))
