-- What a lowering adds to what was made before it.
use Rattle.std.specs.Prelude.{◌≡◌, ◌≤◌, ℕ, true, List, [], ◌∷◌, ◌++◌, Ok, Err, Result}
use Rattle.ix_core.specs.declared.claim.Type_.{Type_}
use Rattle.ix_core.specs.declared.code.Cond.{Cond}
use Rattle.ix_core.specs.declared.code.Item.{Item}
use Rattle.ix_core.specs.Code.{Code, item_code, cond_code}
use Rattle.ix_core.specs.Formed.{is_straight, is_straight_condition, loop_numbers, super_calls, super_calls_in, own_super_calls}
use Rattle.ix_plain.specs.declared.made.Made.{Made}
use Rattle.ix_plain.specs.Scope.{Scope}
use Rattle.ix_plain.specs.Parts.{Asked, most_slots}
use Rattle.ix_plain.specs.Values.{Lowering, Filling}

-- what was made is so, where something was made
abbrev pub Makes : {A E : Type 0} → (A → Type 0) → Result A E → Type 0
Makes P (Ok made) = P made
Makes P (Err limit) = Unit {0}

-- each of a list is so
abbrev pub AllOf : {A : Type 0} → (A → Type 0) → List A → Type 0
AllOf P [] = Unit {0}
AllOf P (first ∷ rest) = P first × AllOf P rest

-- the code of items in front of the rest of their block
abbrev pub code_before : List Item → Code → Code
code_before [] rest = rest
code_before (first ∷ more) rest = item_code first (code_before more rest)

-- Items that only compute and choose: at any depth no loop, no `break` and its like, and no call of the parent's constructor.
pub record IsPlain (items : List Item) : Type 0 where
  pub straight : (rest : Code) → is_straight (code_before items rest) ≡ is_straight rest
  pub loops : (rest : Code) → loop_numbers (code_before items rest) ≡ loop_numbers rest
  pub supers : (rest : Code) → super_calls (code_before items rest) ≡ super_calls rest
  pub own_supers : (rest : Code) → own_super_calls (code_before items rest) ≡ own_super_calls rest

pub record IsPlainCondition (asked : Cond) : Type 0 where
  pub straight : is_straight_condition (cond_code asked) ≡ true
  pub supers : super_calls_in (cond_code asked) ≡ 0

-- Slots are taken upwards, and none past the limit.
pub record Rises (before after : ℕ) : Type 0 where
  pub up : before ≤ after
  pub few : before ≤ most_slots → after ≤ most_slots

-- An expression appends plain items, and takes slots upwards.
pub record Adds (before after : Made) : Type 0 where
  pub items : List Item
  pub appended : after.items ≡ before.items ++ items
  pub plain : IsPlain items
  pub slots : Rises before.free after.free

-- A condition is plain, and takes slots upwards.
pub record Asks (before : ℕ) (asked : Asked) : Type 0 where
  pub plain : IsPlainCondition asked.cond
  pub slots : Rises before asked.free

-- An expression adds so much, as each place wants it.
pub record Grows (l : Lowering) : Type 0 where
  pub value : (scope : Scope) (made : Made) → Makes (λ v. Adds made v.made) (l.value scope made)
  pub condition : (scope : Scope) (free : ℕ) → Makes (Asks free) (l.condition scope free)
  pub target : (scope : Scope) (made : Made) → Makes (λ t. Adds made t.made) (l.target scope made)
  pub unused : (scope : Scope) (made : Made) → Makes (Adds made) (l.unused scope made)

-- and so does an initialiser
abbrev pub Fills : Filling → Type 0
Fills f = (scope : Scope) (ty : Type_) (made : Made) → Makes (λ v. Adds made v.made) (f.value scope ty made)
