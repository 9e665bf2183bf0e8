-- The flag of each answer of the low table: a sum or a product may wrap out of the answer's class, and no other operator may.
use Rattle.std.proofs.Common.{◌≡◌, ◌&&◌, ◌||◌, not, inl, inr, Bool, true, false, refl, ℤ, pos, ◌≤ℤ◌, Option, Some, None, IfSome, arith}
use Rattle.std.specs.Int.{int_wrap}
use Rattle.std.specs.Option.{option_map}
use Rattle.std.proofs.lemmas.Int.{ints}
use Rattle.std.proofs.lemmas.Bool.{and_parts, both_ways, or_cases, not-true}
use Rattle.ix_num.specs.declared.arith.Arith.{Arith}
use Rattle.ix_num.specs.declared.arith.Arith.TheVariants.{Add, Sub, Mul, Div, Rem, And, Or, Xor, Shl, Shr, Ushr}
use Rattle.ix_num.specs.declared.interval.Interval.{Interval}
use Rattle.ix_num.specs.Ints.{IsInt, greatest_int}
use Rattle.ix_num.specs.Arithmetic.{exact_of, java_of, wrap_of}
use Rattle.ix_num.specs.Intervals.{Includes, IsWithin, interval, all_ints}
use Rattle.ix_num.specs.OpRanges.{op_range}
use Rattle.ix_num.proofs.Members.{within_by_ends, within_itself, within_within}
use Rattle.ix_num.proofs.OpRangeLaws.{op_range_includes, op_range_monotone, wrap_of_int}
use Rattle.ix_tables.specs.declared.low.Low.{Low}
use Rattle.ix_tables.specs.declared.low.Low.TheVariants.{Unknown, MinusOne, Zero, One}
use Rattle.ix_tables.specs.LowClasses.{AtLeast}
use Rattle.ix_tables.specs.LowTable.{low_of, is_known, needs_fits_of}
use Rattle.ix_tables.specs.TableLaws.{IsOperand, BreaksByWrapping, NeverWraps, HasFitsFlag}
use Rattle.ix_tables.proofs.AnswersHold.{low_of_sound}
use Rattle.ix_tables.proofs.AnswersAreBest.{is_pair, pair_from, is_outside, outside_from}
use Rattle.ix_tables.proofs.EachCase.{every_pair, each_pair}

-- ---- the operators whose results are ints

-- of any ints the interval of the operator lies within the ints
all_results : (op : Arith) → IsWithin (op_range op all_ints all_ints) all_ints → (i j : Interval) → IsWithin i all_ints → IsWithin j all_ints → IsWithin (op_range op i j) all_ints
all_results op whole i j left right =
    within_within (op_range op i j) (op_range op all_ints all_ints) all_ints (op_range_monotone op i j all_ints all_ints (within_itself all_ints) (within_itself all_ints) left right) whole

abbrev pub naturals : Interval
naturals = interval (pos 0) greatest_int

-- the same of quotients by numbers that are not negative
natural_quotients : (i j : Interval) → IsWithin i all_ints → IsWithin j all_ints → pos 0 ≤ℤ j.lo → IsWithin (op_range Div i j) all_ints
natural_quotients i j left right natural =
    let part : IsWithin j naturals = record { each = λ n p. record { from = omega (arith, ints, p.from); to = (right.each n p).to } } in
    let whole : IsWithin naturals all_ints = within_by_ends naturals all_ints (record { le = tt }) (record { le = tt }) in
    let quotients : IsWithin (op_range Div all_ints naturals) all_ints = within_by_ends (op_range Div all_ints naturals) all_ints (record { le = tt }) (record { le = tt }) in
    within_within (op_range Div i j) (op_range Div all_ints naturals) all_ints (op_range_monotone Div i j all_ints naturals (within_itself all_ints) whole left part) quotients

-- ---- Java's result is the exact one

java_from_exact : (class : Low) (h : Interval) (o : Option ℤ) → IsWithin h all_ints → IfSome o (Includes h) → IfSome o (AtLeast class) → IfSome (option_map wrap_of o) (AtLeast class)
java_from_exact class h None within p q = tt
java_from_exact class h (Some e) within p q =
    let int : IsInt e = record { from = (within.each e p).from; to = (within.each e p).to } in
    rw (wrap_of_int e int) q

single : (m : ℤ) → IsInt m → IsWithin (interval m m) all_ints
single m int = within_by_ends (interval m m) all_ints int.from int.to

member : (m : ℤ) → Includes (interval m m) m
member m = record { from = omega (arith, ints); to = omega (arith, ints) }

-- an operator whose interval lies within the ints never wraps
never_wraps : (op : Arith) (x y : Low) → ((n : ℤ) → IsInt n → IsOperand op n)
    → ((i j : Interval) → IsWithin i all_ints → IsWithin j all_ints → AtLeast x i.lo → AtLeast y j.lo → IsWithin (op_range op i j) all_ints)
    → NeverWraps op x y (low_of op x y)
never_wraps op x y operand range = record {
  result = λ m n r s p q.
      java_from_exact (low_of op x y) (op_range op (interval m m) (interval n n)) (exact_of op m n)
      (range (interval m m) (interval n n) (single m r) (single n s) p q)
      (op_range_includes op (interval m m) (interval n n) (single m r) (single n s) m n (member m) (member n))
      ((low_of_sound op x y).each m n (operand m r) (operand n s) p q);
  range = range;
}

-- ---- all rows

-- two ints whose sum or product wraps
abbrev pub wrapping : Arith → ℤ × ℤ
wrapping Add = (pos 1, greatest_int)
wrapping _ = (pos 65536, pos 32768)

abbrev pub wraps_outside : Arith → Low → Low → Low → Bool
wraps_outside op x y class = is_pair x y (wrapping op) && is_outside class (java_of op (wrapping op).0 (wrapping op).1)

wrapping_from : (op : Arith) (x y class : Low) → wraps_outside op x y class ≡ true → BreaksByWrapping op x y class
wrapping_from op x y class h =
    let both = and_parts (is_pair x y (wrapping op)) (is_outside class (java_of op (wrapping op).0 (wrapping op).1)) h in
    record { operands = pair_from x y (wrapping op) both.0; outside = outside_from class (java_of op (wrapping op).0 (wrapping op).1) both.1 }

-- of a sum or product with a known answer they leave its class
abbrev pub wraps_if_known : Arith → Low → Low → Bool
wraps_if_known op x y = not (is_known (low_of op x y)) || wraps_outside op x y (low_of op x y)

sums_wrap : every_pair (wraps_if_known Add) ≡ true
unfolding int_wrap
sums_wrap = refl

products_wrap : every_pair (wraps_if_known Mul) ≡ true
unfolding int_wrap
products_wrap = refl

known_wraps : (op : Arith) (x y : Low) → wraps_if_known op x y ≡ true → is_known (low_of op x y) ≡ true → BreaksByWrapping op x y (low_of op x y)
known_wraps op x y test known =
    elim (or_cases (not (is_known (low_of op x y))) (wraps_outside op x y (low_of op x y)) test) [
      | inl e ↦ absurd (both_ways (is_known (low_of op x y)) (not-true (is_known (low_of op x y)) e) known)
      | inr e ↦ wrapping_from op x y (low_of op x y) e
    ]

pub flag_holds : (op : Arith) (x y : Low) → is_known (low_of op x y) ≡ true → HasFitsFlag op x y (low_of op x y) (needs_fits_of op x y)
flag_holds Add x y known = rw known (known_wraps Add x y (each_pair (wraps_if_known Add) sums_wrap x y) known)
flag_holds Sub x y known = absurd (both_ways false refl known)
flag_holds Mul x y known = rw known (known_wraps Mul x y (each_pair (wraps_if_known Mul) products_wrap x y) known)
flag_holds Div x Unknown known = absurd (both_ways false refl known)
flag_holds Div x MinusOne known = absurd (both_ways false refl known)
flag_holds Div x Zero known = never_wraps Div x Zero (λ n int. int) (λ i j left right p q. natural_quotients i j left right q)
flag_holds Div x One known = never_wraps Div x One (λ n int. int) (λ i j left right p q. natural_quotients i j left right (omega (arith, ints)))
flag_holds Rem x y known = never_wraps Rem x y (λ n int. int) (λ i j left right p q. all_results Rem (within_by_ends (op_range Rem all_ints all_ints) all_ints (record { le = tt }) (record { le = tt })) i j left right)
flag_holds And x y known = never_wraps And x y (λ n int. int) (λ i j left right p q. all_results And (within_itself all_ints) i j left right)
flag_holds Or x y known = never_wraps Or x y (λ n int. int) (λ i j left right p q. all_results Or (within_itself all_ints) i j left right)
flag_holds Xor x y known = never_wraps Xor x y (λ n int. int) (λ i j left right p q. all_results Xor (within_itself all_ints) i j left right)
flag_holds Shl x y known = absurd (both_ways false refl known)
flag_holds Shr x y known = never_wraps Shr x y (λ n int. int) (λ i j left right p q. all_results Shr (within_itself all_ints) i j left right)
flag_holds Ushr x y known = never_wraps Ushr x y (λ n int. int) (λ i j left right p q. all_results Ushr (within_itself all_ints) i j left right)
