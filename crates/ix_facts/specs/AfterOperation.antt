-- What an operation gives of its target: a rule for each operation. The facts of the rules are those that do not name the target, in all their
-- orders. Checker Framework manual, Index Checker and Constant Value Checker; Kellogg et al., "Lightweight Verification of Array Indexing",
-- ISSTA 2018, sections 4 and 5. Their form as facts is this project's own.
use Rattle.std.specs.Prelude.{◌≡◌, zero, suc, Bool, true, false, ◌&&◌, nat_lt, ℤ, pos, negsuc, ◌+ℤ◌, ◌-ℤ◌, ◌≤ℤ◌, int_le, List, [], ◌∷◌, ◌++◌, length, Option, Some, None}
use Rattle.std.specs.Int.{int_min, int_max}
use Rattle.ix_num.specs.declared.arith.Arith.{Arith}
use Rattle.ix_num.specs.declared.arith.Arith.TheVariants.{Add, Sub, Mul, Div, Rem, And, Or, Xor, Shl, Shr, Ushr}
use Rattle.ix_num.specs.Ints.{greatest_int, IsInt}
use Rattle.ix_num.specs.Arithmetic.{exact_of, wrap_of}
use Rattle.ix_tables.specs.declared.low.Low.TheVariants as class
use Rattle.ix_core.specs.declared.claim.Base.TheVariants as base
use Rattle.ix_core.specs.declared.claim.Claim.{Claim}
use Rattle.ix_core.specs.declared.claim.Claim.TheVariants as claim
use Rattle.ix_core.specs.declared.claim.Type_.{Type_}
use Rattle.ix_core.specs.declared.claim.Type_.TheVariants as type
use Rattle.ix_core.specs.declared.fact.Path.{Path}
use Rattle.ix_core.specs.declared.fact.Path.TheVariants.{Slot}
use Rattle.ix_core.specs.declared.fact.PathOff.TheVariants.{Nothing, Plus, Minus}
use Rattle.ix_core.specs.declared.fact.Fact.{Fact}
use Rattle.ix_core.specs.declared.fact.Fact.TheVariants.{Rng, LenRng, Low, Same, IsLen, Less, Sum, Search, Neg, Upper}
use Rattle.ix_core.specs.declared.fact.Profile.{Profile}
use Rattle.ix_core.specs.declared.fact.Profile.TheVariants.{Ideal}
use Rattle.ix_core.specs.declared.op.Literal.TheVariants as literal
use Rattle.ix_core.specs.declared.op.OpKind.{OpKind}
use Rattle.ix_core.specs.declared.op.OpKind.TheVariants as op
use Rattle.ix_core.specs.declared.op.UnaryNum.{UnaryNum}
use Rattle.ix_core.specs.declared.op.UnaryNum.TheVariants.{Neg as Negated, Flip}
use Rattle.ix_core.specs.Claims.{AreTrueOf}
use Rattle.ix_core.specs.Machine.{unary_of}
use Rattle.ix_core.specs.Numbers.{Numbers}
use Rattle.ix_facts.specs.Bounds
use Rattle.ix_facts.specs.Bounds.{is_path}
use Rattle.ix_facts.specs.Exact.{if_so, each, each_path, if_some, named_arrays, exact_range, exact_unary, fits, range_facts, low_facts, table_class}

-- ---- what a step does

-- the value is what Java keeps of an exact result; in the profile `ideal` only steps count in which it is an int
pub record Computed (profile : Profile) (exact : Option ℤ) (value : ℤ) : Type 0 where
  pub result : ℤ
  pub is : exact ≡ Some result
  pub kept : value ≡ wrap_of result
  pub unwrapped : profile ≡ Ideal → IsInt result

-- the claims on the ints that an array of this type holds
abbrev pub loaded_claims : Type_ → List Claim
loaded_claims (type.Array base.Int (suc zero) element) = element
loaded_claims _ = []

-- What a step of the operation that goes on gives its target: v are the numbers before it and w those after it. An int that is loaded meets the
-- claims on the array's elements, which name nothing.
abbrev pub Results : Profile → OpKind → Numbers → Numbers → Type 0
Results profile (op.Const t (literal.Int n)) v w = w.int (Slot t) ≡ n
Results profile (op.Const t (literal.NullOf ty)) v w = w.size (Slot t) ≡ pos 0
Results profile (op.Copy t s ty) v w = (w.int (Slot t) ≡ v.int (Slot s)) × (w.size (Slot t) ≡ v.size (Slot s))
Results profile (op.Num t arith y z) v w = Computed profile (exact_of arith (v.int (Slot y)) (v.int (Slot z))) (w.int (Slot t))
Results profile (op.Unary t unary y) v w = Computed profile (Some (unary_of unary (v.int (Slot y)))) (w.int (Slot t))
Results profile (op.Length t a) v w = w.int (Slot t) ≡ v.size (Slot a)
Results profile (op.NewArray t ty n) v w = w.size (Slot t) ≡ v.int (Slot n)
Results profile (op.Fill t ty entries) v w = w.size (Slot t) ≡ pos (length entries)
Results profile (op.Load t a i ty) v w = AreTrueOf (loaded_claims ty) (w.int (Slot t))
Results profile _ v w = Unit {0}

-- ---- types

abbrev pub is_int : Type_ → Bool
is_int (type.Plain base.Int) = true
is_int _ = false

abbrev pub is_array : Type_ → Bool
is_array (type.Array of depth element) = true
is_array _ = false

-- an array of arrays, whose cells are arrays
abbrev pub holds_arrays : Type_ → Bool
holds_arrays (type.Array of depth element) = nat_lt 1 depth
holds_arrays _ = false

-- ---- rules that take no bounds

-- A fact of two paths, with t for s in one or both of its places.
abbrev pub two_copied : (Path → Path → Fact) → Path → Path → Path → Path → List Fact
two_copied make t s p q =
    if_so (is_path q s) (make p t ∷ []) ++ (if_so (is_path p s) (make t q ∷ []) ++ if_so (is_path p s && is_path q s) (make t t ∷ []))

-- Each stored fact of a copied int, with the copy in one or more of its places: `y = s + z` gives `y = t + z`. Differences and bounds from an
-- array's end are left out: those with the copied int itself give them.
abbrev pub copied_by : Path → Path → Fact → List Fact
copied_by t s (Rng p l h) = if_so (is_path p s) (Rng t l h ∷ [])
copied_by t s (LenRng a l h) = if_so (is_path a s) (LenRng t l h ∷ [])
copied_by t s (Low p c) = if_so (is_path p s) (Low t c ∷ [])
copied_by t s (Same a b) = two_copied Same t s a b
copied_by t s (IsLen p a) = two_copied IsLen t s p a
copied_by t s (Search p a) = two_copied Search t s p a
copied_by t s (Neg p a) = two_copied Neg t s p a
copied_by t s (Sum u y z) = two_copied (Sum u) t s y z ++ if_so (is_path u s) (Sum t y z ∷ two_copied (Sum t) t s y z)
copied_by t s (Less p q c) = []
copied_by t s (Upper p a o c) = []

-- Each stored bound from the copied array's end, with the copy for the array.
abbrev pub array_copied_by : Path → Path → Fact → List Fact
array_copied_by t s (Upper p a o c) = if_so (is_path a s) (Upper p t o c ∷ [])
array_copied_by t s _ = []

-- The claims on an int that was loaded.
abbrev pub claimed_by : Path → Claim → List Fact
claimed_by t (claim.Range low high) = Rng t low high ∷ []
claimed_by t (claim.Low low) = Rng t low greatest_int ∷ if_so (int_le (negsuc 0) low && int_le low (pos 1)) (Low t low ∷ [])
claimed_by t _ = []

abbrev pub loaded_facts : Path → List Claim → List Fact
loaded_facts t [] = []
loaded_facts t (claim ∷ claims) = claimed_by t claim ++ loaded_facts t claims

module _ (facts : List Fact) where
  -- `t = s`, of an int: t and s are each at most the other, and what is stored of s is of t.
  abbrev pub copied_int : Path → Path → List Fact
  copied_int t s = Less t s (pos 1) ∷ Less s t (pos 1) ∷ each (copied_by t s) facts

  -- `t = s`, of an array: the two have the same length, and bounds from the end of s are bounds from the end of t.
  abbrev pub copied_array : Path → Path → List Fact
  copied_array t s = Same t s ∷ each (array_copied_by t s) facts

  -- `t = s`, by the type.
  abbrev pub copied : Type_ → Path → Path → List Fact
  copied ty t s = if_so (is_int ty) (copied_int t s) ++ if_so (is_array ty) (copied_array t s)

  -- `t = y + z`, of an array: a bound of y at the offset z is one of t; one of y alone is one of t at the offset -z.
  abbrev pub sum_array : Path → Path → Path → Path → List Fact
  sum_array t y z a =
      if_some (Upper t a Nothing) (Bounds.upper_bound facts y a (Plus z))
      ++ (if_some (Upper t a (Minus z)) (Bounds.upper_bound facts y a Nothing)
      ++ if_some (Upper t a (Minus y)) (Bounds.upper_bound facts z a Nothing))

  -- `t = y + z` and stored `r = y + q`: t and r differ as z and q do.
  abbrev pub sum_beside : Path → Path → Path → Fact → List Fact
  sum_beside t y z (Sum r x q) = if_so (is_path x y) (if_some (Less t r) (Bounds.fact_less facts z q) ++ if_some (Less r t) (Bounds.fact_less facts q z))
  sum_beside t y z _ = []

  -- `t = y + z`: t is above y by at least the lower bound of z and at most its upper limit.
  abbrev pub sum_facts : Path → Path → Path → List Fact
  sum_facts t y z =
      Sum t y z
      ∷ Less t y (Bounds.upper_limit facts z +ℤ pos 1) ∷ Less y t (pos 1 -ℤ Bounds.lower_bound facts z)
      ∷ Less t z (Bounds.upper_limit facts y +ℤ pos 1) ∷ Less z t (pos 1 -ℤ Bounds.lower_bound facts y)
      ∷ (each_path (sum_array t y z) (named_arrays facts) ++ (each (sum_beside t y z) facts ++ each (sum_beside t z y) facts))

  -- `t = y - z`, of an array: a bound of y is one of t at the offset z; one of y at the offset -z is one of t.
  abbrev pub difference_array : Path → Path → Path → Path → List Fact
  difference_array t y z a =
      if_some (Upper t a (Plus z)) (Bounds.upper_bound facts y a Nothing) ++ if_some (Upper t a Nothing) (Bounds.upper_bound facts y a (Minus z))

  -- `t = y - z`: t is below y by at least the lower bound of z and at most its upper limit.
  abbrev pub difference_facts : Path → Path → Path → List Fact
  difference_facts t y z =
      Sum y t z ∷ Less t y (pos 1 -ℤ Bounds.lower_bound facts z) ∷ Less y t (Bounds.upper_limit facts z +ℤ pos 1)
      ∷ each_path (difference_array t y z) (named_arrays facts)

  -- the lower bound of an int is at least a number
  abbrev pub is_from : Path → ℤ → Bool
  is_from p n = int_le n (Bounds.lower_bound facts p)

  -- `t = y * z`: a number that is not negative is at most its product with a positive one.
  abbrev pub product_facts : Path → Path → Path → List Fact
  product_facts t y z =
      if_so (is_from y (pos 0) && is_from z (pos 1)) (Less y t (pos 1) ∷ []) ++ if_so (is_from z (pos 0) && is_from y (pos 1)) (Less z t (pos 1) ∷ [])

  -- `t = y / z`: of numbers that are not negative the quotient is at most the dividend, and below it where that is positive and the divisor
  -- at least 2.
  abbrev pub quotient_facts : Path → Path → Path → List Fact
  quotient_facts t y z =
      if_so (is_from y (pos 0) && is_from z (pos 0)) (Less t y (pos 1) ∷ []) ++ if_so (is_from y (pos 1) && is_from z (pos 2)) (Less t y (pos 0) ∷ [])

  -- `t = y % z`: a remainder is below a divisor that is not negative, and at most a dividend that is not.
  abbrev pub remainder_facts : Path → Path → Path → List Fact
  remainder_facts t y z = if_so (is_from z (pos 0)) (Less t z (pos 0) ∷ []) ++ if_so (is_from y (pos 0)) (Less t y (pos 1) ∷ [])

  -- `t = y & z`: at most each operand that is not negative.
  abbrev pub and_facts : Path → Path → Path → List Fact
  and_facts t y z = if_so (is_from z (pos 0)) (Less t z (pos 1) ∷ []) ++ if_so (is_from y (pos 0)) (Less t y (pos 1) ∷ [])

  -- `t = y >> z` and `t = y >>> z`: at most an operand that is not negative.
  abbrev pub shift_facts : Path → Path → List Fact
  shift_facts t y = if_so (is_from y (pos 0)) (Less t y (pos 1) ∷ [])

  -- Half of a stored sum `s = y + z` lies between y and z, where y is at most z; it is below z where y is.
  abbrev pub half_between : Path → Path → Path → List Fact
  half_between t y z =
      if_so (int_le (Bounds.less_bound facts y z) (pos 1)) (Less y t (pos 1) ∷ Less t z (pos 1) ∷ [])
      ++ if_so (int_le (Bounds.less_bound facts y z) (pos 0)) (Less t z (pos 0) ∷ [])

  abbrev pub half_by : Path → Path → Fact → List Fact
  half_by t s (Sum x y z) = if_so (is_path x s) (half_between t y z)
  half_by t s _ = []

  -- `t = s / 2`, `s >> 1` or `s >>> 1`, of a number that is not negative.
  abbrev pub half_facts : ℤ → Path → Path → Path → List Fact
  half_facts n t s z = if_so (is_from z n && (int_le (Bounds.upper_limit facts z) n && is_from s (pos 0))) (each (half_by t s) facts)

  -- there is a number, and it is at least the other
  abbrev pub reaches : Option ℤ → ℤ → Bool
  reaches None n = false
  reaches (Some c) n = int_le n c

  -- `t = ~y`, for y from 0 to the length: a negative answer of a search.
  abbrev pub flip_array : Path → Path → Path → List Fact
  flip_array t y a = if_so (is_from y (pos 0) && reaches (Bounds.upper_bound facts y a Nothing) (negsuc 0)) (Neg t a ∷ [])

  -- `t = ~y`, for an answer y of a search: at most the length.
  abbrev pub flip_by : Path → Path → Fact → List Fact
  flip_by t y (Search p a) = if_so (is_path p y) (Upper t a Nothing (negsuc 0) ∷ [])
  flip_by t y _ = []

  abbrev pub flip_facts : Path → Path → List Fact
  flip_facts t y = each_path (flip_array t y) (named_arrays facts) ++ each (flip_by t y) facts

  -- `t = a.length`: what is below the length is below t, and what is the length is t.
  abbrev pub length_by : Path → Path → Fact → List Fact
  length_by t a (Upper p b Nothing c) = if_so (is_path b a) (Less p t (pos 0 -ℤ c) ∷ [])
  length_by t a (IsLen q b) = if_so (is_path b a) (Less q t (pos 1) ∷ Less t q (pos 1) ∷ [])
  length_by t a _ = []

  abbrev pub length_facts : Path → Path → List Fact
  length_facts t a = IsLen t a ∷ Rng t (Bounds.length_low facts a) (Bounds.length_high facts a) ∷ each (length_by t a) facts

  -- `t = new T[n]`: what is below n is below the length, and where n is a sum so are its parts at each other.
  abbrev pub new_array_by : Path → Path → Fact → List Fact
  new_array_by t n (Less p q c) = if_so (is_path q n) (Upper p t Nothing (pos 0 -ℤ c) ∷ [])
  new_array_by t n (Sum x y z) = if_so (is_path x n) (Upper y t (Plus z) (negsuc 0) ∷ [])
  new_array_by t n _ = []

  abbrev pub new_array_facts : Path → Path → List Fact
  new_array_facts t n =
      IsLen n t ∷ Same t t ∷ LenRng t (int_max (Bounds.lower_bound facts n) (pos 0)) (int_min (Bounds.upper_limit facts n) greatest_int)
      ∷ each (new_array_by t n) facts

  -- ---- all operations

  abbrev pub arith_facts : Profile → Arith → Path → Path → Path → List Fact
  arith_facts profile Add t y z = if_so (fits profile (exact_range facts Add y z)) (sum_facts t y z)
  arith_facts profile Sub t y z = if_so (fits profile (exact_range facts Sub y z)) (difference_facts t y z)
  arith_facts profile Mul t y z = if_so (fits profile (exact_range facts Mul y z)) (product_facts t y z)
  arith_facts profile Div t y z = quotient_facts t y z ++ half_facts (pos 2) t y z
  arith_facts profile Rem t y z = remainder_facts t y z
  arith_facts profile And t y z = and_facts t y z
  arith_facts profile Or t y z = []
  arith_facts profile Xor t y z = []
  arith_facts profile Shl t y z = []
  arith_facts profile Shr t y z = shift_facts t y ++ half_facts (pos 1) t y z
  arith_facts profile Ushr t y z = shift_facts t y ++ half_facts (pos 1) t y z

  abbrev pub num_facts : Profile → Arith → Path → Path → Path → List Fact
  num_facts profile arith t y z =
      range_facts t (exact_range facts arith y z)
      ++ (low_facts profile t (exact_range facts arith y z) (table_class facts arith y z) ++ arith_facts profile arith t y z)

  abbrev pub unary_rule : UnaryNum → Path → Path → List Fact
  unary_rule Negated t y = []
  unary_rule Flip t y = flip_facts t y

  abbrev pub unary_facts : Profile → UnaryNum → Path → Path → List Fact
  unary_facts profile unary t y =
      range_facts t (exact_unary facts unary y) ++ (low_facts profile t (exact_unary facts unary y) class.Unknown ++ unary_rule unary t y)

  -- The new facts of an operation. Of `new`, `Store`, `Print`, calls and accesses to fields they are none here.
  abbrev pub new_facts : Profile → OpKind → List Fact
  new_facts profile (op.Const t (literal.Int n)) = Rng (Slot t) n n ∷ []
  new_facts profile (op.Const t (literal.NullOf ty)) = if_so (is_array ty) (LenRng (Slot t) (pos 0) (pos 0) ∷ Same (Slot t) (Slot t) ∷ [])
  new_facts profile (op.Copy t s ty) = copied ty (Slot t) (Slot s)
  new_facts profile (op.Num t arith y z) = num_facts profile arith (Slot t) (Slot y) (Slot z)
  new_facts profile (op.Unary t unary y) = unary_facts profile unary (Slot t) (Slot y)
  new_facts profile (op.Length t a) = length_facts (Slot t) (Slot a)
  new_facts profile (op.NewArray t ty n) = new_array_facts (Slot t) (Slot n)
  new_facts profile (op.Fill t ty entries) = LenRng (Slot t) (pos (length entries)) (pos (length entries)) ∷ Same (Slot t) (Slot t) ∷ []
  new_facts profile (op.Load t a i ty) = if_so (holds_arrays ty) (Same (Slot t) (Slot t) ∷ []) ++ loaded_facts (Slot t) (loaded_claims ty)
  new_facts profile _ = []

-- The exact interval of an operation, if it has one, is not empty. Where it is empty no step of the operation goes on, and the store is unreachable.
abbrev pub HasExact : List Fact → OpKind → Type 0
HasExact facts (op.Num t arith y z) = (exact_range facts arith (Slot y) (Slot z)).lo ≤ℤ (exact_range facts arith (Slot y) (Slot z)).hi
HasExact facts (op.Unary t unary y) = (exact_unary facts unary (Slot y)).lo ≤ℤ (exact_unary facts unary (Slot y)).hi
HasExact facts _ = Unit {0}
