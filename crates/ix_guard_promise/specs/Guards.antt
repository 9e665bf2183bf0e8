-- Bodies in which each access at a place stands behind a guard: a test of its array and its index, with nothing between that writes them.
use Rattle.std.specs.Prelude.{◌≡◌, ℕ, Bool, false, ◌==◌, pos, List, Option, Some}
use Rattle.ix_num.specs.declared.rel.Rel.{Rel}
use Rattle.ix_num.specs.declared.rel.Rel.TheVariants.{Eq, Lt, Ge}
use Rattle.ix_text.specs.declared.span.Span.{Span}
use Rattle.ix_core.specs.declared.claim.Type_.{Type_}
use Rattle.ix_core.specs.declared.op.Literal.TheVariants as literal
use Rattle.ix_core.specs.declared.op.Op.{Op}
use Rattle.ix_core.specs.declared.op.OpKind.TheVariants as op
use Rattle.ix_core.specs.declared.op.Test.{Test}
use Rattle.ix_core.specs.Code.{Code, End, Do, If, Break, Continue, Return, Throw, Loop, Condition, Known as Certain, Compare, Truth, Both, Either, Opposite}
use Rattle.ix_core.specs.Types.{int_type}
use Rattle.ix_guard_promise.specs.Known.{Known, Nowhere, Unknown, Inside, Says, behind, accessed, IsInside}

-- ---- the test of a guard

-- The test compares these two slots of a type.
pub record Compares (rel : Rel) (left right : ℕ) (ty : Type_) (test : Test) : Type 0 where
  pub by : test.rel ≡ rel
  pub first : test.left ≡ left
  pub second : test.right ≡ right
  pub of : test.ty ≡ ty

-- A condition of the form of `array == null || index < 0 || index >= array.length`, where an operation computes the right side of each comparison.
abbrev pub outside : (null_op zero_op length_op : Op) (is_null is_negative is_too_high : Test) → Condition
outside null_op zero_op length_op is_null is_negative is_too_high =
    Either (Either (Compare (Do null_op End) is_null) (Compare (Do zero_op End) is_negative)) (Compare (Do length_op End) is_too_high)

-- It is this test of the array and the index in these slots. The length goes into another slot than the index.
pub record IsTest (array index : ℕ) (null_op zero_op length_op : Op) (is_null is_negative is_too_high : Test) : Type 0 where
  pub null_slot : ℕ
  pub zero_slot : ℕ
  pub length_slot : ℕ
  pub ty : Type_
  pub null_type : Type_
  pub makes_null : null_op.kind ≡ op.Const null_slot (literal.NullOf null_type)
  pub makes_zero : zero_op.kind ≡ op.Const zero_slot (literal.Int (pos 0))
  pub makes_length : length_op.kind ≡ op.Length length_slot array
  pub asks_null : Compares Eq array null_slot ty is_null
  pub asks_negative : Compares Lt index zero_slot int_type is_negative
  pub asks_too_high : Compares Ge index length_slot int_type is_too_high
  pub apart : (index == length_slot) ≡ false

-- ---- code with guards

-- No access that stands at the place is made where its index isn't known to be inside its array.
abbrev pub IsGuarded : Span → Known → Op → Type 0
IsGuarded place before done = (access : ℕ × ℕ) → accessed done.kind ≡ Some access → done.span ≡ place → IsInside before access

-- What is known before code and at its end, and before a condition, where it holds and where it fails, if each access at the place is guarded. Where a jump
-- leads to nothing is known, nor is it in a loop before its own guards.
mutual
  pub data Guarded (place : Span) : (before : Known) → Code → (end : Known) → Type 0 where
    ends : (before end : Known) → Says before end → Guarded place before End end
    does : (done : Op) (rest : Code) (before end : Known) → IsGuarded place before done → Guarded place (behind done.kind before) rest end → Guarded place before (Do done rest) end
    chooses : (asked : Condition) (first second rest : Code) (before holds fails joined end : Known) → GuardedAsked place before asked holds fails
        → Guarded place holds first joined → Guarded place fails second joined → Guarded place joined rest end → Guarded place before (If asked first second rest) end
    breaks : (rest : Code) (before end : Known) → Guarded place Nowhere rest end → Guarded place before (Break rest) end
    continues : (rest : Code) (before end : Known) → Guarded place Nowhere rest end → Guarded place before (Continue rest) end
    returns : (value : Option ℕ) (span : Span) (rest : Code) (before end : Known) → Guarded place Nowhere rest end → Guarded place before (Return value span rest) end
    throws : (name : List ℕ) (span : Span) (rest : Code) (before end : Known) → Guarded place Nowhere rest end → Guarded place before (Throw name span rest) end
    loops : (test_first : Bool) (asked : Condition) (body next : Code) (number scope : ℕ) (rest : Code) (before end : Known) → GuardedAsked place Unknown asked Unknown Unknown
        → Guarded place Unknown body Unknown → Guarded place Unknown next Unknown → Guarded place Unknown rest end → Guarded place before (Loop test_first asked body next number scope rest) end

  pub data GuardedAsked (place : Span) : (before : Known) → Condition → (holds fails : Known) → Type 0 where
    -- a guard's test: where it fails the index is inside the array
    tests : (array index : ℕ) (null_op zero_op length_op : Op) (is_null is_negative is_too_high : Test) (before : Known) → IsTest array index null_op zero_op length_op is_null is_negative is_too_high
        → GuardedAsked place before (outside null_op zero_op length_op is_null is_negative is_too_high) Unknown (Inside array index)
    certain : (answer : Bool) (before after : Known) → Says before after → GuardedAsked place before (Certain answer) after after
    compares : (code : Code) (test : Test) (before after : Known) → Guarded place before code after → GuardedAsked place before (Compare code test) after after
    reads : (code : Code) (slot : ℕ) (before after : Known) → Guarded place before code after → GuardedAsked place before (Truth code slot) after after
    both : (first second : Condition) (before between holds fails : Known) → GuardedAsked place before first between fails → GuardedAsked place between second holds fails
        → GuardedAsked place before (Both first second) holds fails
    either : (first second : Condition) (before between holds fails : Known) → GuardedAsked place before first holds between → GuardedAsked place between second holds fails
        → GuardedAsked place before (Either first second) holds fails
    opposite : (asked : Condition) (before holds fails : Known) → GuardedAsked place before asked fails holds → GuardedAsked place before (Opposite asked) holds fails

-- Each access at the place is guarded in the body, at whose start nothing is known.
abbrev pub Guards : Span → Code → Type 0
Guards place body = Guarded place Unknown body Unknown
