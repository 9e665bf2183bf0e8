-- No stronger answer than that of the low table holds: for each pair of classes two ints whose result is outside the next class.
use Rattle.std.proofs.Common.{◌≡◌, ◌&&◌, Bool, true, false, not, refl, ℤ, pos, negsuc, int_le, Option, Some, None, IfSome, IsSomeAnd, arith}
use Rattle.std.specs.Int.{int_wrap}
use Rattle.std.proofs.lemmas.Int.{ints}
use Rattle.std.proofs.lemmas.Bool.{and_parts, both_ways, not-true}
use Rattle.ix_num.specs.declared.arith.Arith.{Arith}
use Rattle.ix_num.specs.declared.arith.Arith.TheVariants.{Add, Sub, Mul, Div, Rem, And, Or, Xor, Shl, Shr, Ushr}
use Rattle.ix_num.specs.Ints.{IsInt, least_int, greatest_int}
use Rattle.ix_num.specs.Arithmetic.{exact_of}
use Rattle.ix_tables.specs.declared.low.Low.{Low}
use Rattle.ix_tables.specs.declared.low.Low.TheVariants.{Unknown, MinusOne, Zero, One}
use Rattle.ix_tables.specs.LowClasses.{AtLeast, next_stronger}
use Rattle.ix_tables.specs.LowTable.{low_of}
use Rattle.ix_tables.specs.TableLaws.{Pair, Breaks, IsBest}
use Rattle.ix_tables.proofs.EachCase.{every_pair, each_pair}

-- ---- the tests, and what they tell

abbrev pub is_of : Low → ℤ → Bool
is_of Unknown n = true
is_of MinusOne n = int_le (negsuc 0) n
is_of Zero n = int_le (pos 0) n
is_of One n = int_le (pos 1) n

pub is_of_true : (x : Low) (n : ℤ) → is_of x n ≡ true → AtLeast x n
is_of_true Unknown n h = tt
is_of_true MinusOne n h = grind (arith, ints)
is_of_true Zero n h = grind (arith, ints)
is_of_true One n h = grind (arith, ints)

pub is_of_false : (x : Low) (n : ℤ) → is_of x n ≡ false → AtLeast x n → ⊥
is_of_false Unknown n h p = both_ways true h refl
is_of_false MinusOne n h p = absurd (grind (arith, ints))
is_of_false Zero n h p = absurd (grind (arith, ints))
is_of_false One n h p = absurd (grind (arith, ints))

abbrev pub is_int : ℤ → Bool
is_int n = int_le least_int n && int_le n greatest_int

pub is_int_true : (n : ℤ) → is_int n ≡ true → IsInt n
is_int_true n h =
    let both = and_parts (int_le least_int n) (int_le n greatest_int) h in
    let low = both.0 in
    let high = both.1 in
    record { from = grind (arith, ints); to = grind (arith, ints) }

abbrev pub is_pair : Low → Low → ℤ × ℤ → Bool
is_pair x y p = (is_int p.0 && is_int p.1) && (is_of x p.0 && is_of y p.1)

abbrev pub pair_from : (x y : Low) (p : ℤ × ℤ) → is_pair x y p ≡ true → Pair x y
pair_from x y p h =
    let both = and_parts (is_int p.0 && is_int p.1) (is_of x p.0 && is_of y p.1) h in
    let int = and_parts (is_int p.0) (is_int p.1) both.0 in
    let class = and_parts (is_of x p.0) (is_of y p.1) both.1 in
    record { left = p.0; right = p.1; left_int = is_int_true p.0 int.0; right_int = is_int_true p.1 int.1; left_class = is_of_true x p.0 class.0; right_class = is_of_true y p.1 class.1 }

-- there is a result, and it is not of the class
abbrev pub is_outside : Low → Option ℤ → Bool
is_outside class None = false
is_outside class (Some e) = not (is_of class e)

pub outside_from : (class : Low) (o : Option ℤ) → is_outside class o ≡ true → IsSomeAnd o (λ e. ¬ AtLeast class e)
outside_from class None h = absurd (both_ways false refl h)
outside_from class (Some e) h = is_of_false class e (not-true (is_of class e) h)

-- ---- the two ints

abbrev pub least_of : Low → ℤ
least_of Unknown = negsuc 2
least_of MinusOne = negsuc 0
least_of Zero = pos 0
least_of One = pos 1

abbrev pub of_product : Low → Low → ℤ × ℤ
of_product Unknown y = (negsuc 0, pos 2)
of_product MinusOne y = (negsuc 0, pos 2)
of_product x Unknown = (pos 2, negsuc 0)
of_product x MinusOne = (pos 2, negsuc 0)
of_product x y = (least_of x, least_of y)

abbrev pub of_quotient : Low → Low → ℤ × ℤ
of_quotient x Unknown = (pos 2, negsuc 0)
of_quotient x MinusOne = (pos 2, negsuc 0)
of_quotient One y = (pos 1, pos 2)
of_quotient x y = (least_of x, pos 1)

abbrev pub of_remainder : Low → ℤ × ℤ
of_remainder One = (pos 5, pos 5)
of_remainder x = (least_of x, pos 5)

abbrev pub of_and : Low → Low → ℤ × ℤ
of_and Unknown Unknown = (negsuc 1, negsuc 0)
of_and Unknown MinusOne = (negsuc 1, negsuc 0)
of_and MinusOne Unknown = (negsuc 0, negsuc 1)
of_and MinusOne MinusOne = (negsuc 0, negsuc 0)
of_and x y = (pos 1, pos 2)

abbrev pub of_or : Low → Low → ℤ × ℤ
of_or Unknown y = (negsuc 1, pos 2)
of_or x Unknown = (pos 2, negsuc 1)
of_or MinusOne y = (negsuc 0, pos 1)
of_or x MinusOne = (pos 1, negsuc 0)
of_or x y = (least_of x, least_of y)

abbrev pub of_xor : Low → Low → ℤ × ℤ
of_xor Unknown y = (negsuc 0, pos 1)
of_xor MinusOne y = (negsuc 0, pos 1)
of_xor x Unknown = (pos 1, negsuc 0)
of_xor x MinusOne = (pos 1, negsuc 0)
of_xor x y = (pos 1, pos 1)

abbrev pub of_shift : Low → ℤ × ℤ
of_shift One = (pos 1, pos 33)
of_shift x = (least_of x, pos 32)

abbrev pub samples : Arith → Low → Low → ℤ × ℤ
samples Add x y = (least_of x, least_of y)
samples Sub x y = (pos 1, pos 3)
samples Mul x y = of_product x y
samples Div x y = of_quotient x y
samples Rem x y = of_remainder x
samples And x y = of_and x y
samples Or x y = of_or x y
samples Xor x y = of_xor x y
samples Shl x y = (pos 1, pos 31)
samples Shr x y = of_shift x
samples Ushr x y = of_shift x

-- ---- all cases

abbrev pub breaks_next : Arith → Low → Low → Option Low → Bool
breaks_next op x y None = true
breaks_next op x y (Some class) = is_pair x y (samples op x y) && is_outside class (exact_of op (samples op x y).0 (samples op x y).1)

best_from : (op : Arith) (x y : Low) (o : Option Low) → breaks_next op x y o ≡ true → IfSome o (Breaks op x y)
best_from op x y None h = tt
best_from op x y (Some class) h =
    let both = and_parts (is_pair x y (samples op x y)) (is_outside class (exact_of op (samples op x y).0 (samples op x y).1)) h in
    record { operands = pair_from x y (samples op x y) both.0; outside = outside_from class (exact_of op (samples op x y).0 (samples op x y).1) both.1 }

abbrev pub is_best : Arith → Low → Low → Bool
is_best op x y = breaks_next op x y (next_stronger (low_of op x y))

all_best : (op : Arith) → every_pair (is_best op) ≡ true
unfolding int_wrap
all_best Add = refl
all_best Sub = refl
all_best Mul = refl
all_best Div = refl
all_best Rem = refl
all_best And = refl
all_best Or = refl
all_best Xor = refl
all_best Shl = refl
all_best Shr = refl
all_best Ushr = refl

pub low_of_best : (op : Arith) (x y : Low) → IsBest op x y (low_of op x y)
low_of_best op x y = best_from op x y (next_stronger (low_of op x y)) (each_pair (is_best op) (all_best op) x y)
