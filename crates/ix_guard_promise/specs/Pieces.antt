-- Pieces of a body with guards, each judged by its operations alone: code that has no access at the place, and code that keeps what a guard's test tells.
use Rattle.std.specs.Prelude.{◌≡◌, ℕ, false}
use Rattle.ix_text.specs.declared.span.Span.{Span}
use Rattle.ix_core.specs.declared.op.Op.{Op}
use Rattle.ix_core.specs.Code.{Code, End, Do, If, Break, Continue, Return, Throw, Loop, Condition, Known as Certain, Compare, Truth, Both, Either, Opposite}
use Rattle.ix_guard_promise.specs.Known.{Unknown, Inside, writes}
use Rattle.ix_guard_promise.specs.Guards.{IsGuarded}

-- each operation of the code has the property, those of conditions included
abbrev mutual
  pub EachOp : (Op → Type 0) → Code → Type 0
  EachOp P End = Unit {0}
  EachOp P (Do done rest) = P done × EachOp P rest
  EachOp P (If asked first second rest) = EachAsked P asked × (EachOp P first × (EachOp P second × EachOp P rest))
  EachOp P (Break rest) = EachOp P rest
  EachOp P (Continue rest) = EachOp P rest
  EachOp P (Return value span rest) = EachOp P rest
  EachOp P (Throw name span rest) = EachOp P rest
  EachOp P (Loop test_first asked body next number scope rest) = EachAsked P asked × (EachOp P body × (EachOp P next × EachOp P rest))

  pub EachAsked : (Op → Type 0) → Condition → Type 0
  EachAsked P (Certain answer) = Unit {0}
  EachAsked P (Compare code test) = EachOp P code
  EachAsked P (Truth code slot) = EachOp P code
  EachAsked P (Both first second) = EachAsked P first × EachAsked P second
  EachAsked P (Either first second) = EachAsked P first × EachAsked P second
  EachAsked P (Opposite asked) = EachAsked P asked

-- there is no loop
abbrev mutual
  pub HasNoLoop : Code → Type 0
  HasNoLoop End = Unit {0}
  HasNoLoop (Do done rest) = HasNoLoop rest
  HasNoLoop (If asked first second rest) = AsksNoLoop asked × (HasNoLoop first × (HasNoLoop second × HasNoLoop rest))
  HasNoLoop (Break rest) = HasNoLoop rest
  HasNoLoop (Continue rest) = HasNoLoop rest
  HasNoLoop (Return value span rest) = HasNoLoop rest
  HasNoLoop (Throw name span rest) = HasNoLoop rest
  HasNoLoop (Loop test_first asked body next number scope rest) = ⊥

  pub AsksNoLoop : Condition → Type 0
  AsksNoLoop (Certain answer) = Unit {0}
  AsksNoLoop (Compare code test) = HasNoLoop code
  AsksNoLoop (Truth code slot) = HasNoLoop code
  AsksNoLoop (Both first second) = AsksNoLoop first × AsksNoLoop second
  AsksNoLoop (Either first second) = AsksNoLoop first × AsksNoLoop second
  AsksNoLoop (Opposite asked) = AsksNoLoop asked

-- The operation is no access at the place.
abbrev pub IsElsewhere : Span → Op → Type 0
IsElsewhere place = IsGuarded place Unknown

-- The operation writes neither slot, and is no access at the place but of these slots.
pub record Keeps (place : Span) (array index : ℕ) (done : Op) : Type 0 where
  pub array_stays : writes done.kind array ≡ false
  pub index_stays : writes done.kind index ≡ false
  pub access : IsGuarded place (Inside array index) done

-- one after the other
abbrev pub followed : Code → Code → Code
followed End next = next
followed (Do done rest) next = Do done (followed rest next)
followed (If asked first second rest) next = If asked first second (followed rest next)
followed (Break rest) next = Break (followed rest next)
followed (Continue rest) next = Continue (followed rest next)
followed (Return value span rest) next = Return value span (followed rest next)
followed (Throw name span rest) next = Throw name span (followed rest next)
followed (Loop test_first asked body turn number scope rest) next = Loop test_first asked body turn number scope (followed rest next)
