-- The classes of lower bounds: a number is in the class of each number below it, and stronger operands have a stronger answer of the low table.
use Rattle.std.specs.Prelude.{◌≡◌, false, ℤ, pos, negsuc, ◌≤ℤ◌, ◌<ℤ◌, int_le, Option, Some, None, IfSome, IsSomeAnd}
use Rattle.std.proofs.Common.{arith}
use Rattle.std.proofs.lemmas.Int.{ints}
use Rattle.ix_num.specs.declared.arith.Arith.{Arith}
use Rattle.ix_num.specs.declared.arith.Arith.TheVariants.{Add, Sub, Mul, Div, Rem, And, Or, Xor, Shl, Shr, Ushr}
use Rattle.ix_num.specs.Ints.{IsInt}
use Rattle.ix_num.specs.Arithmetic.{exact_of}
use Rattle.ix_tables.specs.declared.low.Low.{Low}
use Rattle.ix_tables.specs.declared.low.Low.TheVariants.{Unknown, MinusOne, Zero, One}
use Rattle.ix_tables.specs.LowClasses.{AtLeast, LowBelow, class_of, next_stronger}
use Rattle.ix_tables.specs.LowTable.{low_of}
use Rattle.ix_tables.specs.TableLaws.{IsOperand, Breaks}
use Rattle.ix_tables.proofs.AnswersHold.{low_of_sound}
use Rattle.ix_tables.proofs.AnswersAreBest.{low_of_best}
use Rattle.ix_core.proofs.Cases.{by_test}
use Rattle.ix_facts.specs.Exact.{class_number}
use Rattle.ix_facts.proofs.Gives.{Gives}
use Rattle.ix_facts.proofs.Tests.{at_most_true}
use Rattle.ix_facts.proofs.Worse.{Up, Worse}

at_most_false : (x y : ℤ) → int_le x y ≡ false → y <ℤ x
at_most_false x y h = grind (arith, ints)

-- the class of a number, and what it tells of the number
pub data ClassIs (n : ℤ) : Low → Type 0 where
  is_one : pos 1 ≤ℤ n → ClassIs n One
  is_zero : n ≡ pos 0 → ClassIs n Zero
  is_minus_one : n ≡ negsuc 0 → ClassIs n MinusOne
  is_unknown : n <ℤ negsuc 0 → ClassIs n Unknown

pub class_is : (n : ℤ) → ClassIs n (class_of n)
class_is n =
    by_test (int_le (pos 1) n)
    (λ t. rw t (is_one (at_most_true (pos 1) n t)))
    (λ t. rw t (by_test (int_le (pos 0) n)
    (λ u. rw u (is_zero (let a = at_most_false (pos 1) n t in let b = at_most_true (pos 0) n u in omega (arith, ints))))
    (λ u. rw u (by_test (int_le (negsuc 0) n)
    (λ x. rw x (is_minus_one (let a = at_most_false (pos 0) n u in let b = at_most_true (negsuc 0) n x in omega (arith, ints))))
    (λ x. rw x (is_unknown (at_most_false (negsuc 0) n x)))))))

class_holds_by : (k n : ℤ) (c : Low) → ClassIs k c → k ≤ℤ n → AtLeast c n
class_holds_by k n _ (is_one x) h = omega (arith, ints)
class_holds_by k n _ (is_zero x) h = omega (arith, ints)
class_holds_by k n _ (is_minus_one x) h = omega (arith, ints)
class_holds_by k n _ (is_unknown x) h = tt

pub class_holds : (k n : ℤ) → k ≤ℤ n → AtLeast (class_of k) n
class_holds k n h = class_holds_by k n (class_of k) (class_is k) h

pub number_holds : (c : Low) (n : ℤ) → AtLeast c n → Gives (class_number c) (λ k. k ≤ℤ n)
number_holds Unknown n h = tt
number_holds MinusOne n h = h
number_holds Zero n h = h
number_holds One n h = h

class_up_by : (m n : ℤ) (c d : Low) → ClassIs m c → ClassIs n d → m ≤ℤ n → Worse Up (class_number c) (class_number d)
class_up_by m n _ _ (is_unknown x) _ h = tt
class_up_by m n _ _ (is_one x) (is_one y) h = omega (arith, ints)
class_up_by m n _ _ (is_one x) (is_zero y) h = absurd (omega (arith, ints))
class_up_by m n _ _ (is_one x) (is_minus_one y) h = absurd (omega (arith, ints))
class_up_by m n _ _ (is_one x) (is_unknown y) h = absurd (omega (arith, ints))
class_up_by m n _ _ (is_zero x) (is_one y) h = omega (arith, ints)
class_up_by m n _ _ (is_zero x) (is_zero y) h = omega (arith, ints)
class_up_by m n _ _ (is_zero x) (is_minus_one y) h = absurd (omega (arith, ints))
class_up_by m n _ _ (is_zero x) (is_unknown y) h = absurd (omega (arith, ints))
class_up_by m n _ _ (is_minus_one x) (is_one y) h = omega (arith, ints)
class_up_by m n _ _ (is_minus_one x) (is_zero y) h = omega (arith, ints)
class_up_by m n _ _ (is_minus_one x) (is_minus_one y) h = omega (arith, ints)
class_up_by m n _ _ (is_minus_one x) (is_unknown y) h = absurd (omega (arith, ints))

-- of a greater number a stronger class
pub class_up : (m n : ℤ) → m ≤ℤ n → Worse Up (class_number (class_of m)) (class_number (class_of n))
class_up m n h = class_up_by m n (class_of m) (class_of n) (class_is m) (class_is n) h

pub below_if_up : (c d : Low) → Worse Up (class_number d) (class_number c) → LowBelow c d
below_if_up c Unknown w = λ n h. tt
below_if_up Unknown MinusOne w = absurd w
below_if_up Unknown Zero w = absurd w
below_if_up Unknown One w = absurd w
below_if_up MinusOne MinusOne w = λ n h. h
below_if_up MinusOne Zero w = absurd (omega (arith, ints))
below_if_up MinusOne One w = absurd (omega (arith, ints))
below_if_up Zero MinusOne w = λ n h. omega (arith, ints)
below_if_up Zero Zero w = λ n h. h
below_if_up Zero One w = absurd (omega (arith, ints))
below_if_up One MinusOne w = λ n h. omega (arith, ints)
below_if_up One Zero w = λ n h. omega (arith, ints)
below_if_up One One w = λ n h. h

-- c is at least as strong as d, where d is not of the next stronger class
up_if_best : (c d : Low) → IfSome (next_stronger c) (λ next. LowBelow d next → ⊥) → Worse Up (class_number d) (class_number c)
up_if_best c Unknown best = tt
up_if_best Unknown MinusOne best = best (λ n h. h)
up_if_best Unknown Zero best = best (λ n h. omega (arith, ints))
up_if_best Unknown One best = best (λ n h. omega (arith, ints))
up_if_best MinusOne MinusOne best = omega (arith, ints)
up_if_best MinusOne Zero best = absurd (best (λ n h. h))
up_if_best MinusOne One best = absurd (best (λ n h. omega (arith, ints)))
up_if_best Zero MinusOne best = omega (arith, ints)
up_if_best Zero Zero best = omega (arith, ints)
up_if_best Zero One best = absurd (best (λ n h. h))
up_if_best One MinusOne best = omega (arith, ints)
up_if_best One Zero best = omega (arith, ints)
up_if_best One One best = omega (arith, ints)

pub is_operand : (op : Arith) (n : ℤ) → IsInt n → IsOperand op n
is_operand Add n i = tt
is_operand Mul n i = tt
is_operand Sub n i = i
is_operand Div n i = i
is_operand Rem n i = i
is_operand And n i = i
is_operand Or n i = i
is_operand Xor n i = i
is_operand Shl n i = i
is_operand Shr n i = i
is_operand Ushr n i = i

clash : (o : Option ℤ) (P Q : ℤ → Type 0) → IfSome o P → IsSomeAnd o (λ e. ¬ Q e) → ((e : ℤ) → P e → Q e) → ⊥
clash None P Q p q k = q
clash (Some e) P Q p q k = q (k e p)

not_next : (op : Arith) (x y u z : Low) → LowBelow x u → LowBelow y z → (o : Option Low) → IfSome o (Breaks op x y) → IfSome o (λ next. LowBelow (low_of op u z) next → ⊥)
not_next op x y u z p q None b = tt
not_next op x y u z p q (Some next) b = λ below.
    clash (exact_of op b.operands.left b.operands.right) (AtLeast (low_of op u z)) (AtLeast next)
    ((low_of_sound op u z).each b.operands.left b.operands.right (is_operand op b.operands.left b.operands.left_int) (is_operand op b.operands.right b.operands.right_int) (p b.operands.left b.operands.left_class) (q b.operands.right b.operands.right_class))
    b.outside below

-- of stronger classes the table's answer is stronger
pub table_up : (op : Arith) (x y u z : Low) → LowBelow x u → LowBelow y z → Worse Up (class_number (low_of op u z)) (class_number (low_of op x y))
table_up op x y u z p q = up_if_best (low_of op x y) (low_of op u z) (not_next op x y u z p q (next_stronger (low_of op x y)) (low_of_best op x y))
