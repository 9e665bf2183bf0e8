-- What the body of a method has.
use Rattle.std.specs.Prelude.{◌≡◌, ◌≤◌, ℕ, ◌+◌, List, ◌++◌}
use Rattle.ix_core.specs.declared.code.Item.{Item}
use Rattle.ix_core.specs.Code.{Code, items_code}
use Rattle.ix_core.specs.Formed.{loop_numbers, numbers_from, super_calls, own_super_calls}
use Rattle.ix_plain.specs.declared.body.Body.{Body}
use Rattle.ix_formed.specs.Additions.{AllOf, code_before}
use Rattle.ix_formed.specs.Extensions.{IsWithin, HasSlotIn, Moves}

-- Items without a loop, of which so many call the parent's constructor, each an item of the body itself.
pub record CallsParent (calls : ℕ) (items : List Item) : Type 0 where
  pub loops : (rest : Code) → loop_numbers (code_before items rest) ≡ loop_numbers rest
  pub supers : (rest : Code) → super_calls (code_before items rest) ≡ calls + super_calls rest
  pub own_supers : (rest : Code) → own_super_calls (code_before items rest) ≡ calls + own_super_calls rest

-- What a constructor begins with.
pub record Starts (calls : ℕ) (body after : Body) : Type 0 where
  pub moves : Moves body after 0
  pub items : List Item
  pub appended : after.made.items ≡ body.made.items ++ items
  pub parent : CallsParent calls items

-- A whole body, where so many slots are those of parameters and `this`, and so many calls of the parent's constructor are wanted.
pub record IsBody (free calls : ℕ) (body : Body) : Type 0 where
  pub within : IsWithin body
  pub most : free ≤ body.most
  pub locals : AllOf (HasSlotIn free body.most) body.locals
  pub loops : loop_numbers (items_code body.made.items) ≡ numbers_from 0 body.loops
  pub supers : super_calls (items_code body.made.items) ≡ calls
  pub own_supers : own_super_calls (items_code body.made.items) ≡ calls
