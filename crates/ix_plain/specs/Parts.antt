-- The parts that the plain form is made of, and the limits within which it is made.
use Rattle.std.specs.Prelude.{ℕ, ◌+◌, pos, true, false, if◌then◌else◌, List, [], ◌∷◌, ◌++◌, nat_lt, Result, Ok, Err}
use Rattle.ix_text.specs.declared.span.Span.{Span}
use Rattle.ix_core.specs.declared.claim.Base.TheVariants.{Int, Bool as Boolean}
use Rattle.ix_core.specs.declared.claim.Type_.{Type_}
use Rattle.ix_core.specs.declared.claim.Type_.TheVariants as type
use Rattle.ix_core.specs.declared.code.Block.{Block}
use Rattle.ix_core.specs.declared.code.Cond.{Cond, Truth}
use Rattle.ix_core.specs.declared.code.Item.{Item, Do, If}
use Rattle.ix_core.specs.declared.op.Literal.{Literal}
use Rattle.ix_core.specs.declared.op.Literal.TheVariants as literal
use Rattle.ix_core.specs.declared.op.OpKind.{OpKind}
use Rattle.ix_core.specs.declared.op.OpKind.TheVariants as op
use Rattle.ix_core.specs.Types.{int_type}
use Rattle.ix_meaning.specs.declared.note.Which.{Which}
use Rattle.ix_meaning.specs.declared.note.Which.TheVariants as which
use Rattle.ix_plain.specs.declared.made.Made.{Made}
use Rattle.ix_plain.specs.declared.made.Spot.{Spot}
use Rattle.ix_plain.specs.declared.made.Spot.TheVariants as spot

-- What is made, or the limit that it would pass.
abbrev pub Within : Type 0 → Type 0
Within A = Result A Which

-- one after the other; the first that is refused is the answer
infixl 10 ◌>>=◌
abbrev pub ◌>>=◌ : {A B E : Type 0} → Result A E → (A → Result B E) → Result B E
(Ok made) >>= next = next made
(Err refused) >>= next = Err refused

-- ---- what is made

-- what was made behind an expression, and the slot that holds its value
pub record Value : Type 0 where
  pub made : Made
  pub slot : ℕ

-- a condition, and the first slot that is free behind it
pub record Asked : Type 0 where
  pub cond : Cond
  pub free : ℕ

-- what was made behind the parts of an assignment's target, which are evaluated once
pub record Target : Type 0 where
  pub made : Made
  pub spot : Spot

-- a block of its own, whose temporaries begin with this slot
abbrev pub empty : ℕ → Made
empty free = record { items = []; free = free }

abbrev pub block : Made → Block
block made = record { items = made.items }

abbrev pub with_item : Made → Item → Made
with_item made item = record { items = made.items ++ item ∷ []; free = made.free }

abbrev pub in_place : Made → ℕ → Within Value
in_place made slot = Ok record { made = made; slot = slot }

-- ---- operations

abbrev pub done : OpKind → Span → List Span → Item
done kind span parts = Do record { kind = kind; span = span; parts = parts }

-- the slots that a method may have
abbrev pub most_slots : ℕ
most_slots = 512

-- An item whose target is the first free slot, which it takes. Each temporary is written by one operation alone.
abbrev pub taking : Made → Item → Within Value
taking made item =
    if nat_lt made.free most_slots then Ok record { made = record { items = made.items ++ item ∷ []; free = made.free + 1 }; slot = made.free } else Err which.Slots

abbrev pub computed : Made → OpKind → Span → Within Value
computed made kind span = taking made (done kind span [])

-- In value position a condition writes true or false (JLS 15.20 to 15.24).
abbrev pub truth_item : Cond → ℕ → Span → Item
truth_item asked slot span = If asked (record { items = done (op.Const slot (literal.Bool true)) span [] ∷ [] }) (record { items = done (op.Const slot (literal.Bool false)) span [] ∷ [] })

abbrev pub truth_value : List Item → Span → Asked → Within Value
truth_value items span asked = taking (record { items = items; free = asked.free }) (truth_item asked.cond asked.free span)

-- In a condition a value is computed, and then its slot is read.
abbrev pub truth_of : Value → Within Asked
truth_of value = Ok record { cond = Truth (block value.made) value.slot; free = value.made.free }

-- ---- variables, fields and cells

-- What is in a spot goes into a new temporary; its place is the target's, and of a cell the index's.
abbrev pub read : Spot → Span → Made → Within Value
read (spot.Variable slot) target made = computed made (op.Copy made.free slot int_type) target
read (spot.FieldOf object field) target made = computed made (op.ReadField made.free object field) target
read (spot.Cell array index ty at) target made = computed made (op.Load made.free array index ty) at

-- The write of a value of that type. The spans are those of the whole assignment, of its target and of its value.
abbrev pub write : Spot → ℕ → Type_ → Span → Span → Span → Item
write (spot.Variable slot) value ty whole target from = done (op.Copy slot value ty) whole (target ∷ from ∷ [])
write (spot.FieldOf object field) value ty whole target from = done (op.WriteField object field value) whole (target ∷ from ∷ [])
write (spot.Cell array index array_type at) value ty whole target from = done (op.Store array index value array_type) at (from ∷ [])

-- JLS 4.12.5
abbrev pub default : Type_ → Literal
default (type.Plain Int) = literal.Int (pos 0)
default (type.Plain Boolean) = literal.Bool false
default ty = literal.NullOf ty
