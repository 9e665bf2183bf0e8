-- The rules of operations, with what they go over as lists of their own: the facts on each operand, and the named arrays. The facts that name an
-- operand give what all facts give, and each array once gives what all named arrays give.
use Rattle.std.specs.Prelude.{ℕ, ℤ, pos, ◌+ℤ◌, ◌-ℤ◌, ◌&&◌, int_le, List, [], ◌∷◌, ◌++◌, length}
use Rattle.std.specs.Int.{int_min, int_max}
use Rattle.ix_num.specs.declared.arith.Arith.{Arith}
use Rattle.ix_num.specs.declared.arith.Arith.TheVariants.{Add, Sub, Mul, Div, Rem, And, Or, Xor, Shl, Shr, Ushr}
use Rattle.ix_num.specs.Ints.{greatest_int}
use Rattle.ix_facts.specs.Low.TheVariants as class
use Rattle.ix_core.specs.declared.claim.Type_.{Type_}
use Rattle.ix_core.specs.declared.fact.Path.{Path}
use Rattle.ix_core.specs.declared.fact.Path.TheVariants.{Slot}
use Rattle.ix_core.specs.declared.fact.Fact.{Fact}
use Rattle.ix_core.specs.declared.fact.Fact.TheVariants.{Rng, LenRng, Same, IsLen, Less, Sum}
use Rattle.ix_core.specs.declared.fact.Profile.{Profile}
use Rattle.ix_core.specs.declared.op.Literal.{Literal}
use Rattle.ix_core.specs.declared.op.Literal.TheVariants as literal
use Rattle.ix_core.specs.declared.op.OpKind.{OpKind}
use Rattle.ix_core.specs.declared.op.OpKind.TheVariants as op
use Rattle.ix_core.specs.declared.op.UnaryNum.{UnaryNum}
use Rattle.ix_core.specs.declared.op.UnaryNum.TheVariants.{Neg as Negated, Flip}
use Rattle.ix_facts.specs.Bounds
use Rattle.ix_facts.specs.Exact.{if_so, each, each_path, exact_unary, fits, range_facts, low_facts, table_class}
use Rattle.ix_facts.specs.AfterOperation as after
use Rattle.ix_facts.specs.AfterOperation.{is_array, holds_arrays, is_from, loaded_claims, loaded_facts}
use Rattle.ix_intervals.specs.OverPaths.{exact_range}

module _ (facts on_left on_right : List Fact) (arrays : List Path) where
  abbrev pub sum_facts : Path → Path → Path → List Fact
  sum_facts t y z =
      Sum t y z
      ∷ Less t y (Bounds.upper_limit facts z +ℤ pos 1) ∷ Less y t (pos 1 -ℤ Bounds.lower_bound facts z)
      ∷ Less t z (Bounds.upper_limit facts y +ℤ pos 1) ∷ Less z t (pos 1 -ℤ Bounds.lower_bound facts y)
      ∷ (each_path (after.sum_array facts t y z) arrays ++ (each (after.sum_beside facts t y z) on_left ++ each (after.sum_beside facts t z y) on_right))

  abbrev pub difference_facts : Path → Path → Path → List Fact
  difference_facts t y z =
      Sum y t z ∷ Less t y (pos 1 -ℤ Bounds.lower_bound facts z) ∷ Less y t (Bounds.upper_limit facts z +ℤ pos 1)
      ∷ each_path (after.difference_array facts t y z) arrays

  abbrev pub half_facts : ℤ → Path → Path → Path → List Fact
  half_facts n t s z =
      if_so (is_from facts z n && (int_le (Bounds.upper_limit facts z) n && is_from facts s (pos 0))) (each (after.half_by facts t s) on_left)

  abbrev pub flip_facts : Path → Path → List Fact
  flip_facts t y = each_path (after.flip_array facts t y) arrays ++ each (after.flip_by facts t y) on_left

  abbrev pub arith_facts : Profile → Arith → Path → Path → Path → List Fact
  arith_facts profile Add t y z = if_so (fits profile (exact_range facts on_left arrays Add y z)) (sum_facts t y z)
  arith_facts profile Sub t y z = if_so (fits profile (exact_range facts on_left arrays Sub y z)) (difference_facts t y z)
  arith_facts profile Mul t y z = if_so (fits profile (exact_range facts on_left arrays Mul y z)) (after.product_facts facts t y z)
  arith_facts profile Div t y z = after.quotient_facts facts t y z ++ half_facts (pos 2) t y z
  arith_facts profile Rem t y z = after.remainder_facts facts t y z
  arith_facts profile And t y z = after.and_facts facts t y z
  arith_facts profile Or t y z = []
  arith_facts profile Xor t y z = []
  arith_facts profile Shl t y z = []
  arith_facts profile Shr t y z = after.shift_facts facts t y ++ half_facts (pos 1) t y z
  arith_facts profile Ushr t y z = after.shift_facts facts t y ++ half_facts (pos 1) t y z

  abbrev pub num_facts : Profile → Arith → Path → Path → Path → List Fact
  num_facts profile arith t y z =
      range_facts t (exact_range facts on_left arrays arith y z)
      ++ (low_facts profile t (exact_range facts on_left arrays arith y z) (table_class facts arith y z) ++ arith_facts profile arith t y z)

  abbrev pub unary_rule : UnaryNum → Path → Path → List Fact
  unary_rule Negated t y = []
  unary_rule Flip t y = flip_facts t y

  abbrev pub unary_facts : Profile → UnaryNum → Path → Path → List Fact
  unary_facts profile unary t y =
      range_facts t (exact_unary facts unary y) ++ (low_facts profile t (exact_unary facts unary y) class.Unknown ++ unary_rule unary t y)

  abbrev pub length_facts : Path → Path → List Fact
  length_facts t a = IsLen t a ∷ Rng t (Bounds.length_low facts a) (Bounds.length_high facts a) ∷ each (after.length_by facts t a) on_left

  abbrev pub new_array_facts : Path → Path → List Fact
  new_array_facts t n =
      IsLen n t ∷ Same t t ∷ LenRng t (int_max (Bounds.lower_bound facts n) (pos 0)) (int_min (Bounds.upper_limit facts n) greatest_int)
      ∷ each (after.new_array_by facts t n) on_left

-- A number is its own range, and null counts as an array of no length.
abbrev pub const_facts : Path → Literal → List Fact
const_facts t (literal.Int n) = Rng t n n ∷ []
const_facts t (literal.NullOf ty) = if_so (is_array ty) (LenRng t (pos 0) (pos 0) ∷ Same t t ∷ [])
const_facts t _ = []

abbrev pub fill_facts : Path → ℕ → List Fact
fill_facts t count = LenRng t (pos count) (pos count) ∷ Same t t ∷ []

abbrev pub load_facts : Path → Type_ → List Fact
load_facts t ty = if_so (holds_arrays ty) (Same t t ∷ []) ++ loaded_facts t (loaded_claims ty)

-- The new facts of an operation, with the facts on each path.
abbrev pub new_facts : List Fact → (Path → List Fact) → List Path → Profile → OpKind → List Fact
new_facts facts on arrays profile (op.Const t value) = const_facts (Slot t) value
new_facts facts on arrays profile (op.Copy t s ty) = after.copied (on (Slot s)) ty (Slot t) (Slot s)
new_facts facts on arrays profile (op.Num t arith y z) = num_facts facts (on (Slot y)) (on (Slot z)) arrays profile arith (Slot t) (Slot y) (Slot z)
new_facts facts on arrays profile (op.Unary t unary y) = unary_facts facts (on (Slot y)) [] arrays profile unary (Slot t) (Slot y)
new_facts facts on arrays profile (op.Length t a) = length_facts facts (on (Slot a)) [] arrays (Slot t) (Slot a)
new_facts facts on arrays profile (op.NewArray t ty n) = new_array_facts facts (on (Slot n)) [] arrays (Slot t) (Slot n)
new_facts facts on arrays profile (op.Fill t ty entries) = fill_facts (Slot t) (length entries)
new_facts facts on arrays profile (op.Load t a i ty) = load_facts (Slot t) ty
new_facts facts on arrays profile _ = []
