-- A table as its list of rows: the operator, the classes of its operands, the class of its result, and whether that needs a result
-- that fits.
use Rattle.std.specs.Prelude.{◌&&◌, ◌==◌, ℕ, Bool, false, List, [], ◌∷◌, if◌then◌else◌, flat_map}
use Rattle.ix_num.specs.declared.arith.Arith.{Arith}
use Rattle.ix_num.specs.declared.arith.Arith.TheVariants.{Add, Sub, Mul, Div, Rem, And, Or, Xor, Shl, Shr, Ushr}
use Rattle.ix_tables.specs.declared.low.Low.{Low}
use Rattle.ix_tables.specs.declared.low.Low.TheVariants.{Unknown, MinusOne, Zero, One}
use Rattle.ix_tables.specs.LowTable.{low_of, is_known, needs_fits_of}
use Rattle.ix_tables.specs.TableLaws.{IsSound, IsBest, HasFitsFlag}

abbrev pub Row : Type 0
Row = Arith × Low × Low × Low × Bool

-- the places of the operators and of the classes in their lists
abbrev pub operator_place : Arith → ℕ
operator_place Add = 0
operator_place Sub = 1
operator_place Mul = 2
operator_place Div = 3
operator_place Rem = 4
operator_place And = 5
operator_place Or = 6
operator_place Xor = 7
operator_place Shl = 8
operator_place Shr = 9
operator_place Ushr = 10

abbrev pub class_place : Low → ℕ
class_place Unknown = 0
class_place MinusOne = 1
class_place Zero = 2
class_place One = 3

-- the row is for these operands
abbrev pub is_for : Arith → Low → Low → Row → Bool
is_for op x y r = operator_place r.0 == operator_place op && (class_place r.1 == class_place x && class_place r.2 == class_place y)

-- the answer of the first row for these operands, `Unknown` where there is none
abbrev pub answer_in : List Row → Arith → Low → Low → Low
answer_in [] op x y = Unknown
answer_in (r ∷ rs) op x y = if is_for op x y r then r.3 else answer_in rs op x y

-- its flag, false where there is none
abbrev pub flag_in : List Row → Arith → Low → Low → Bool
flag_in [] op x y = false
flag_in (r ∷ rs) op x y = if is_for op x y r then r.4 else flag_in rs op x y

-- ---- the rows of the low table

abbrev pub operators : List Arith
operators = Add ∷ Sub ∷ Mul ∷ Div ∷ Rem ∷ And ∷ Or ∷ Xor ∷ Shl ∷ Shr ∷ Ushr ∷ []

abbrev pub classes : List Low
classes = Unknown ∷ MinusOne ∷ Zero ∷ One ∷ []

-- the row for these operands, if anything is known of their result
abbrev pub rows_for : Arith → Low → Low → List Row
rows_for op x y = if is_known (low_of op x y) then (op, x, y, low_of op x y, needs_fits_of op x y) ∷ [] else []

-- one row for each case of the definition in which something is known
abbrev pub low_rows : List Row
low_rows = flat_map (λ op. flat_map (λ x. flat_map (λ y. rows_for op x y) classes) classes) operators

-- the laws of one row
abbrev pub IsSoundRow : Row → Type 0
IsSoundRow r = IsSound r.0 r.1 r.2 r.3

abbrev pub IsBestRow : Row → Type 0
IsBestRow r = IsBest r.0 r.1 r.2 r.3

abbrev pub HasFitsFlagRow : Row → Type 0
HasFitsFlagRow r = HasFitsFlag r.0 r.1 r.2 r.3 r.4
