-- What a statement adds to the body before it.
use Rattle.std.specs.Prelude.{◌≡◌, ◌≤◌, ◌<◌, ℕ, ◌+◌, List, ◌++◌}
use Rattle.ix_text.specs.declared.span.Span.{Span}
use Rattle.ix_core.specs.declared.code.Item.{Item}
use Rattle.ix_core.specs.declared.program.Local.{Local}
use Rattle.ix_core.specs.Code.{Code}
use Rattle.ix_core.specs.Formed.{loop_numbers, numbers_from, super_calls, own_super_calls}
use Rattle.ix_plain.specs.declared.body.Body.{Body}
use Rattle.ix_plain.specs.Scope.{Site}
use Rattle.ix_plain.specs.Parts.{most_slots}
use Rattle.ix_plain.specs.Statements.{Running, Inside, Tested, most_loops}
use Rattle.ix_formed.specs.Additions.{Makes, AllOf, IsPlain, IsPlainCondition, code_before}

-- Items whose loops have the numbers from the first on, so many, in the order of the text; and none calls the parent's constructor.
pub record IsNumbered (first count : ℕ) (items : List Item) : Type 0 where
  pub loops : (rest : Code) → loop_numbers (code_before items rest) ≡ numbers_from first count ++ loop_numbers rest
  pub supers : (rest : Code) → super_calls (code_before items rest) ≡ super_calls rest
  pub own_supers : (rest : Code) → own_super_calls (code_before items rest) ≡ own_super_calls rest

-- within the limits, with all slots that are taken below the greatest
pub record IsWithin (body : Body) : Type 0 where
  pub free : body.made.free ≤ body.most
  pub slots : body.most ≤ most_slots
  pub loops : body.loops ≤ most_loops

abbrev pub HasSlotIn : ℕ → ℕ → Local × Span → Type 0
HasSlotIn first most local = (first ≤ local.0.slot) × (local.0.slot < most)

-- The counts of a body go up, by so many loops, and stay within the limits; its locals are added behind.
pub record Moves (body after : Body) (count : ℕ) : Type 0 where
  pub loops : after.loops ≡ body.loops + count
  pub free : body.made.free ≤ after.made.free
  pub most : body.most ≤ after.most
  pub within : IsWithin body → IsWithin after
  pub locals : List (Local × Span)
  pub grown : after.locals ≡ body.locals ++ locals
  pub placed : AllOf (HasSlotIn body.made.free after.most) locals

-- A statement appends items, whose loops have the next numbers.
pub record Extends (body after : Body) : Type 0 where
  pub count : ℕ
  pub moves : Moves body after count
  pub items : List Item
  pub appended : after.made.items ≡ body.made.items ++ items
  pub numbered : IsNumbered body.loops count items

-- A full expression appends plain items.
pub record Computes (body after : Body) : Type 0 where
  pub moves : Moves body after 0
  pub items : List Item
  pub appended : after.made.items ≡ body.made.items ++ items
  pub plain : IsPlain items

-- A condition is no item of the body.
pub record IsTested (body : Body) (asked : Tested) : Type 0 where
  pub moves : Moves body asked.body 0
  pub same : asked.body.made ≡ body.made
  pub plain : IsPlainCondition asked.cond

-- What is made in a block of its own is no item of the body.
pub record Nests (body : Body) (made : Inside) : Type 0 where
  pub count : ℕ
  pub moves : Moves body made.body count
  pub same : made.body.made ≡ body.made
  pub numbered : IsNumbered body.loops count made.block.items

abbrev pub Runs : Running → Type 0
Runs part = (site : Site) (end : ℕ) (body : Body) → Makes (Extends body) (part.run site end body)
