-- Sums of a few bounds fit 64 bits, so that the code's number is the whole number; the better of two bounds is one; and a walk that takes the better.
use Rattle.std.specs.Prelude.{◌≡◌, ℕ, ◌+◌, ◌<◌, ℤ, pos, ◌+ℤ◌, ◌-ℤ◌, List, length, Option, Some, None, IfSome, refl}
use Rattle.std.specs.Int.{int_min, int_max}
use Rattle.std.proofs.Common.{arith, sym, ap, ◌∙◌, FitsSigned, w32, w64, to_z, of_z, drop, get_or}
use Rattle.std.proofs.lemmas.Int.{ints, clamps, to_z-of_z}
use Rattle.std.proofs.lemmas.List.{at_drop_more}
use Rattle.ix_num.specs.Ints.{IsInt}
use Rattle.ix_core.specs.declared.fact.Fact.{Fact}
use Rattle.ix_facts.specs.Small.{IsEnd, IsLimit, IsBound}
use Rattle.ix_facts.specs.Bounds.{best, greatest, least, at_least, at_most}

abbrev pub kept : ℤ → ℤ
kept n = to_z w64 (of_z w64 n)

pub end_kept : (n : ℤ) → IsEnd n → kept n ≡ n
end_kept n p = to_z-of_z w64 n (omega (arith, ints, p.above, p.below))

pub limit_kept : (n : ℤ) → IsLimit n → kept n ≡ n
limit_kept n p = to_z-of_z w64 n (omega (arith, ints, p.above, p.below))

pub end_limit : (n : ℤ) → IsEnd n → IsLimit n
end_limit n p = record { above = omega (arith, ints, p.above); below = omega (arith, ints, p.below) }

pub bound_kept : (n : ℤ) → IsBound n → kept n ≡ n
bound_kept n p = to_z-of_z w64 n (omega (arith, ints, p.above, p.below))

pub int_kept : (n : ℤ) → FitsSigned w32 n → kept (to_z w32 (of_z w32 n)) ≡ n
int_kept n p = ap kept (to_z-of_z w32 n p) ∙ to_z-of_z w64 n (omega (arith, ints))

pub int_limit : (n : ℤ) → FitsSigned w32 n → IsLimit n
int_limit n p = record { above = omega (arith, ints); below = omega (arith, ints) }

pub int_of : (n : ℤ) → FitsSigned w32 n → IsInt n
int_of n p = record { from = omega (arith, ints); to = omega (arith, ints) }

pub int_end : (n : ℤ) → FitsSigned w32 n → IsEnd n
int_end n p = record { above = omega (arith, ints); below = omega (arith, ints) }

pub negated_end : (n : ℤ) → IsInt n → IsEnd (pos 0 -ℤ n)
negated_end n p = record { above = omega (arith, ints, p.to); below = omega (arith, ints, p.from) }

pub negated_is : (n : ℤ) → IsInt n → kept (pos 0 -ℤ kept n) ≡ pos 0 -ℤ n
negated_is n p = ap (λ m. kept (pos 0 -ℤ m)) (to_z-of_z w64 n (omega (arith, ints, p.from, p.to))) ∙ end_kept (pos 0 -ℤ n) (negated_end n p)

-- ---- sums and differences of two limits

pub sum_bound : (m n : ℤ) → IsLimit m → IsLimit n → IsBound (m +ℤ n)
sum_bound m n p q = record { above = omega (arith, ints, p.above, q.above); below = omega (arith, ints, p.below, q.below) }

pub difference_bound : (m n : ℤ) → IsLimit m → IsLimit n → IsBound (m -ℤ n)
difference_bound m n p q = record { above = omega (arith, ints, p.above, q.below); below = omega (arith, ints, p.below, q.above) }

pub sum_is : (m n : ℤ) → IsLimit m → IsLimit n → kept (kept m +ℤ kept n) ≡ m +ℤ n
sum_is m n p q = (λ i. kept (limit_kept m p i +ℤ limit_kept n q i)) ∙ bound_kept (m +ℤ n) (sum_bound m n p q)

pub difference_is : (m n : ℤ) → IsLimit m → IsLimit n → kept (kept m -ℤ kept n) ≡ m -ℤ n
difference_is m n p q = (λ i. kept (limit_kept m p i -ℤ limit_kept n q i)) ∙ bound_kept (m -ℤ n) (difference_bound m n p q)

-- the same of an int that the code widens first
pub constant_sum_is : (c n : ℤ) → FitsSigned w32 c → IsLimit n → kept (kept (to_z w32 (of_z w32 c)) +ℤ kept n) ≡ c +ℤ n
constant_sum_is c n p q = ap (λ m. kept (kept m +ℤ kept n)) (to_z-of_z w32 c p) ∙ sum_is c n (int_limit c p) q

pub constant_difference_is : (c n : ℤ) → FitsSigned w32 c → IsLimit n → kept (kept (to_z w32 (of_z w32 c)) -ℤ kept n) ≡ c -ℤ n
constant_difference_is c n p q = ap (λ m. kept (kept m -ℤ kept n)) (to_z-of_z w32 c p) ∙ difference_is c n (int_limit c p) q

-- what is left of a size above a limit
one_less : (size : ℤ) → IsEnd size → IsLimit (size -ℤ pos 1)
one_less size p = record { above = omega (arith, ints, p.above); below = omega (arith, ints, p.below) }

pub left_bound : (size limit : ℤ) → IsEnd size → IsLimit limit → IsBound (size -ℤ pos 1 -ℤ limit)
left_bound size limit p q = difference_bound (size -ℤ pos 1) limit (one_less size p) q

pub left_is : (size limit : ℤ) → IsEnd size → IsLimit limit → kept (kept (kept size -ℤ pos 1) -ℤ kept limit) ≡ size -ℤ pos 1 -ℤ limit
left_is size limit p q = ap (λ n. kept (kept (n -ℤ pos 1) -ℤ kept limit)) (end_kept size p) ∙ difference_is (size -ℤ pos 1) limit (one_less size p) q

-- ---- the better of two

pub at_least_end : (d r : ℤ) (n : Option ℤ) → IsEnd d → IfSome n IsEnd → r ≡ at_least d n → IsEnd r
at_least_end d r None p q is = rw is p
at_least_end d r (Some c) p q is = rw is (record { above = omega (arith, ints, clamps, p.above, q.above); below = omega (arith, ints, clamps, p.below, q.below) })

pub at_most_end : (d r : ℤ) (n : Option ℤ) → IsEnd d → IfSome n IsEnd → r ≡ at_most d n → IsEnd r
at_most_end d r None p q is = rw is p
at_most_end d r (Some c) p q is = rw is (record { above = omega (arith, ints, clamps, p.above, q.above); below = omega (arith, ints, clamps, p.below, q.below) })

pub at_least_limit : (d r : ℤ) (n : Option ℤ) → IsLimit d → IfSome n IsLimit → r ≡ at_least d n → IsLimit r
at_least_limit d r None p q is = rw is p
at_least_limit d r (Some c) p q is = rw is (record { above = omega (arith, ints, clamps, p.above, q.above); below = omega (arith, ints, clamps, p.below, q.below) })

pub at_most_limit : (d r : ℤ) (n : Option ℤ) → IsLimit d → IfSome n IsLimit → r ≡ at_most d n → IsLimit r
at_most_limit d r None p q is = rw is p
at_most_limit d r (Some c) p q is = rw is (record { above = omega (arith, ints, clamps, p.above, q.above); below = omega (arith, ints, clamps, p.below, q.below) })

pub at_most_bound : (d r : ℤ) (n : Option ℤ) → IsBound d → IfSome n IsEnd → r ≡ at_most d n → IsBound r
at_most_bound d r None p q is = rw is p
at_most_bound d r (Some c) p q is = rw is (record { above = omega (arith, ints, clamps, p.above, q.above); below = omega (arith, ints, clamps, p.below, q.below) })

-- ---- walks that take the better

at_least_both : (d : ℤ) (m n : Option ℤ) → at_least (at_least d m) n ≡ at_least d (best int_max m n)
at_least_both d None n = refl
at_least_both d (Some x) None = refl
at_least_both d (Some x) (Some y) = omega (arith, ints, clamps)

at_most_both : (d : ℤ) (m n : Option ℤ) → at_most (at_most d m) n ≡ at_most d (best int_min m n)
at_most_both d None n = refl
at_most_both d (Some x) None = refl
at_most_both d (Some x) (Some y) = omega (arith, ints, clamps)

module _ (by : Fact → Option ℤ) (facts : List Fact) (i : ℕ) (other : Fact) (d r x : ℤ) (n : Option ℤ) where
  pub at_least_step : i < length facts → n ≡ by (get_or facts i other) → r ≡ at_least d n → at_least d (greatest by (drop i facts)) ≡ x → at_least r (greatest by (drop (i + 1) facts)) ≡ x
  at_least_step within is better before =
      (λ j. at_least ((better ∙ ap (at_least d) is) j) (greatest by (drop (i + 1) facts)))
      ∙ at_least_both d (by (get_or facts i other)) (greatest by (drop (i + 1) facts))
      ∙ sym (at_drop_more (λ l. at_least d (greatest by l)) facts i other within)
      ∙ before

  pub at_most_step : i < length facts → n ≡ by (get_or facts i other) → r ≡ at_most d n → at_most d (least by (drop i facts)) ≡ x → at_most r (least by (drop (i + 1) facts)) ≡ x
  at_most_step within is better before =
      (λ j. at_most ((better ∙ ap (at_most d) is) j) (least by (drop (i + 1) facts)))
      ∙ at_most_both d (by (get_or facts i other)) (least by (drop (i + 1) facts))
      ∙ sym (at_drop_more (λ l. at_most d (least by l)) facts i other within)
      ∙ before
