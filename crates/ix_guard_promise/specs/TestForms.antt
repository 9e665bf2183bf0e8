-- What the tree of a guard's test becomes.
use Rattle.std.specs.Prelude.{◌≡◌, ℕ, ◌+◌, max, List, [], ◌∷◌, ◌++◌, Result, Ok, Err}
use Rattle.ix_text.specs.declared.span.Span.{Span}
use Rattle.ix_core.specs.declared.code.Item.{Item}
use Rattle.ix_core.specs.declared.op.Op.{Op}
use Rattle.ix_core.specs.declared.op.Test.{Test}
use Rattle.ix_core.specs.Code.{Code, End, If, Throw, Condition, item_code, cond_code}
use Rattle.ix_guard_promise.specs.Guards.{IsTest, outside}
use Rattle.ix_plain.specs.declared.body.Body.{Body}
use Rattle.ix_plain.specs.Parts.{Asked}

-- Lowering refuses nothing.
abbrev pub IsMade : {A E : Type 0} → Result A E → Type 0
IsMade (Ok made) = Unit {0}
IsMade (Err limit) = ⊥

-- The condition is a guard's test of these slots, whose operations take the three slots from a free one on.
pub record Tests (array index free : ℕ) (asked : Condition) : Type 0 where
  pub null_op : Op
  pub zero_op : Op
  pub length_op : Op
  pub is_null : Test
  pub is_negative : Test
  pub is_too_high : Test
  pub form : asked ≡ outside null_op zero_op length_op is_null is_negative is_too_high
  pub is_test : IsTest array index null_op zero_op length_op is_null is_negative is_too_high
  pub takes_null : is_test.null_slot ≡ free
  pub takes_zero : is_test.zero_slot ≡ free + 1
  pub takes_length : is_test.length_slot ≡ free + 2

-- Such a condition is made, and behind it the next slot is free.
pub record Asks (array index free : ℕ) (asked : Asked) : Type 0 where
  pub tests : Tests array index free (cond_code asked.cond)
  pub behind : asked.free ≡ free + 3

-- One more item in the body: a choice of the test that throws where it holds, and goes on where it fails. Its slots are free again.
pub record Guards (array index : ℕ) (name : List ℕ) (span : Span) (before after : Body) : Type 0 where
  pub asked : Condition
  pub tests : Tests array index before.made.free asked
  pub item : Item
  pub form : (rest : Code) → item_code item rest ≡ If asked (Throw name span End) End rest
  pub appended : after.made.items ≡ before.made.items ++ item ∷ []
  pub free : after.made.free ≡ before.made.free
  pub locals : after.locals ≡ before.locals
  pub loops : after.loops ≡ before.loops
  pub most : after.most ≡ max before.most (before.made.free + 3)
