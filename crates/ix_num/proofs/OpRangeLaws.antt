-- The interval of what an operator gives: it includes every exact result, and Java's wherever that is the exact one, and it is monotone.
use Rattle.std.proofs.Common.{◌≡◌, inl, inr, true, false, ℤ, ◌≤ℤ◌, Option, Some, None, IfSome, arith, FitsSigned}
use Rattle.std.specs.Int.{w32}
use Rattle.std.specs.Option.{option_map}
use Rattle.std.proofs.lemmas.Int.{ints, int_wrap_fits}
use Rattle.std.proofs.lemmas.Bool.{or_left, or_right, or_from}
use Rattle.ix_num.specs.declared.interval.Interval.{Interval}
use Rattle.ix_num.specs.declared.arith.Arith.{Arith}
use Rattle.ix_num.specs.Ints.{IsInt}
use Rattle.ix_num.specs.Arithmetic.{exact_of, java_of, wrap_of}
use Rattle.ix_num.specs.Intervals.{Includes, IsWithin, IsIntRange, no_numbers, is_empty, all_ints}
use Rattle.ix_num.specs.OpRanges.{row_of, op_range}
use Rattle.ix_num.proofs.Members.{cases_empty, low_end, high_end, within_if_empty}
use Rattle.ix_num.proofs.RowsInclude.{row_includes}
use Rattle.ix_num.proofs.RowsAreMonotone.{row_monotone, takes_ends}

pub int_range : (x : Interval) → x.lo ≤ℤ x.hi → IsWithin x all_ints → IsIntRange x
int_range x some within =
    record { some = some; from = (within.each x.lo (low_end x some)).from; to = (within.each x.hi (high_end x some)).to }

-- where an operand is empty, and where none is
pub op_range_empty_left : (op : Arith) (x y : Interval) → is_empty x ≡ true → op_range op x y ≡ no_numbers
op_range_empty_left op x y e = rw (or_left (is_empty x) (is_empty y) e)

pub op_range_empty_right : (op : Arith) (x y : Interval) → is_empty y ≡ true → op_range op x y ≡ no_numbers
op_range_empty_right op x y e = rw (or_right (is_empty x) (is_empty y) e)

pub op_range_some : (op : Arith) (x y : Interval) → is_empty x ≡ false → is_empty y ≡ false → op_range op x y ≡ row_of op x y
op_range_some op x y e f = rw (or_from (is_empty x) (is_empty y) e f)

-- an int is what Java keeps of it
pub wrap_of_int : (n : ℤ) → IsInt n → wrap_of n ≡ n
wrap_of_int n int = let fits : FitsSigned w32 n = omega (arith, ints, int.from, int.to) in int_wrap_fits w32 n fits

-- every exact result
pub op_range_includes : (op : Arith) (x y : Interval) → IsWithin x all_ints → IsWithin y all_ints → (m n : ℤ) → Includes x m → Includes y n → IfSome (exact_of op m n) (Includes (op_range op x y))
op_range_includes op x y left right m n p q =
    elim (cases_empty x) [
      | inl e ↦ absurd (omega (arith, ints, e.1, p.from, p.to))
      | inr e ↦ elim (cases_empty y) [
        | inl f ↦ absurd (omega (arith, ints, f.1, q.from, q.to))
        | inr f ↦ rw (op_range_some op x y e.0 f.0) (row_includes op x y m n (int_range x e.1 left) (int_range y f.1 right) p q)
      ]
    ]

kept_by_java : (i : Interval) (o : Option ℤ) → IfSome o (Includes i) → IfSome o (λ e. IsInt e → IfSome (option_map wrap_of o) (Includes i))
kept_by_java i None p = tt
kept_by_java i (Some e) p = λ int. rw (wrap_of_int e int) p

-- Java's result, wherever the exact one is an int
pub op_range_includes_java : (op : Arith) (x y : Interval) → IsWithin x all_ints → IsWithin y all_ints → (m n : ℤ) → Includes x m → Includes y n → IfSome (exact_of op m n) (λ e. IsInt e → IfSome (java_of op m n) (Includes (op_range op x y)))
op_range_includes_java op x y left right m n p q = kept_by_java (op_range op x y) (exact_of op m n) (op_range_includes op x y left right m n p q)

-- of smaller operands a smaller interval
pub op_range_monotone : (op : Arith) (i j x y : Interval) → IsWithin x all_ints → IsWithin y all_ints → IsWithin i x → IsWithin j y → IsWithin (op_range op i j) (op_range op x y)
op_range_monotone op i j x y left right p q =
    elim (cases_empty i) [
      | inl a ↦ rw (op_range_empty_left op i j a.0) (within_if_empty no_numbers (op_range op x y) (omega (arith, ints)))
      | inr a ↦ elim (cases_empty j) [
        | inl b ↦ rw (op_range_empty_right op i j b.0) (within_if_empty no_numbers (op_range op x y) (omega (arith, ints)))
        | inr b ↦
            let s = takes_ends i x a.1 p in
            let t = takes_ends j y b.1 q in
            elim (cases_empty x) [
              | inl e ↦ absurd (omega (arith, ints, e.1, s.low.from, s.low.to))
              | inr e ↦ elim (cases_empty y) [
                | inl f ↦ absurd (omega (arith, ints, f.1, t.low.from, t.low.to))
                | inr f ↦ rw (op_range_some op i j a.0 b.0, op_range_some op x y e.0 f.0) (row_monotone op i j x y (int_range x e.1 left) (int_range y f.1 right) q s t)
              ]
            ]
      ]
    ]
