-- What an answer of the low table says of numbers: it holds, no stronger one does, and whether it survives a result that wraps.
use Rattle.std.specs.Prelude.{Bool, ℤ, ⊤, IfSome, IsSomeAnd, MatchBool}
use Rattle.ix_num.specs.declared.arith.Arith.{Arith}
use Rattle.ix_num.specs.declared.arith.Arith.TheVariants.{Add, Mul}
use Rattle.ix_num.specs.declared.interval.Interval.{Interval}
use Rattle.ix_num.specs.Ints.{IsInt}
use Rattle.ix_num.specs.Arithmetic.{exact_of, java_of}
use Rattle.ix_num.specs.Intervals.{IsWithin, all_ints}
use Rattle.ix_num.specs.OpRanges.{op_range}
use Rattle.ix_tables.specs.declared.low.Low.{Low}
use Rattle.ix_tables.specs.LowClasses.{AtLeast, next_stronger}

-- the numbers that a law speaks of: whole numbers for sums and products, ints for the other operators
abbrev pub IsOperand : Arith → ℤ → Type 0
IsOperand Add n = ⊤
IsOperand Mul n = ⊤
IsOperand _ n = IsInt n

-- the exact result of any numbers of the two classes is of the answer's class
pub record IsSound (op : Arith) (x y answer : Low) : Type 0 where
  pub each : (m n : ℤ) → IsOperand op m → IsOperand op n → AtLeast x m → AtLeast y n → IfSome (exact_of op m n) (AtLeast answer)

-- two ints of the two classes
pub record Pair (x y : Low) : Type 0 where
  pub left : ℤ
  pub right : ℤ
  pub left_int : IsInt left
  pub right_int : IsInt right
  pub left_class : AtLeast x left
  pub right_class : AtLeast y right

-- two ints of the two classes have an exact result that is not of the class
pub record Breaks (op : Arith) (x y class : Low) : Type 0 where
  pub operands : Pair x y
  pub outside : IsSomeAnd (exact_of op operands.left operands.right) (λ e. ¬ AtLeast class e)

-- no stronger answer holds
abbrev pub IsBest : Arith → Low → Low → Low → Type 0
IsBest op x y answer = IfSome (next_stronger answer) (Breaks op x y)

-- two ints of the two classes have a wrapped result that is not of the answer's class
pub record BreaksByWrapping (op : Arith) (x y answer : Low) : Type 0 where
  pub operands : Pair x y
  pub outside : IsSomeAnd (java_of op operands.left operands.right) (λ e. ¬ AtLeast answer e)

-- Java's result of ints of the two classes is of the answer's class, and the interval of two operands with low ends of the two
-- classes lies within the ints (or is empty)
pub record NeverWraps (op : Arith) (x y answer : Low) : Type 0 where
  pub result : (m n : ℤ) → IsInt m → IsInt n → AtLeast x m → AtLeast y n → IfSome (java_of op m n) (AtLeast answer)
  pub range : (i j : Interval) → IsWithin i all_ints → IsWithin j all_ints → AtLeast x i.lo → AtLeast y j.lo → IsWithin (op_range op i j) all_ints

-- what the flag of an answer says
abbrev pub HasFitsFlag : Arith → Low → Low → Low → Bool → Type 0
HasFitsFlag op x y answer flag = MatchBool flag (BreaksByWrapping op x y answer) (NeverWraps op x y answer)
