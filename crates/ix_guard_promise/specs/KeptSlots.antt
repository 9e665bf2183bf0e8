-- What a lowering adds, where each operation has a property: that it keeps what a guard's test tells of two slots, or that it is no access at a place.
use Rattle.std.specs.Prelude.{◌≡◌, ◌≤◌, ◌<◌, ℕ, List, ◌++◌}
use Rattle.ix_core.specs.declared.claim.Type_.{Type_}
use Rattle.ix_core.specs.declared.code.Item.{Item}
use Rattle.ix_core.specs.declared.op.Op.{Op}
use Rattle.ix_core.specs.Code.{items_code, cond_code}
use Rattle.ix_plain.specs.declared.made.Made.{Made}
use Rattle.ix_plain.specs.Scope.{Scope}
use Rattle.ix_plain.specs.Parts.{Asked}
use Rattle.ix_plain.specs.Values.{Lowering, Filling}
use Rattle.ix_formed.specs.Additions.{Makes}
use Rattle.ix_guard_promise.specs.Pieces.{EachOp, EachAsked, HasNoLoop, AsksNoLoop}

-- Both slots are below the first that is free.
pub record AreBelow (array index free : ℕ) : Type 0 where
  pub array_below : array < free
  pub index_below : index < free

-- An expression appends items without a loop whose operations all have the property, and takes slots upwards.
pub record Leaves (P : Op → Type 0) (before after : Made) : Type 0 where
  pub items : List Item
  pub appended : after.items ≡ before.items ++ items
  pub each : EachOp P (items_code items)
  pub no_loop : HasNoLoop (items_code items)
  pub up : before.free ≤ after.free

-- so a condition
pub record LeavesAsked (P : Op → Type 0) (before : ℕ) (asked : Asked) : Type 0 where
  pub each : EachAsked P (cond_code asked.cond)
  pub no_loop : AsksNoLoop (cond_code asked.cond)
  pub up : before ≤ asked.free

-- An expression does so as each place wants it, where so much is known of the first slot that is free.
pub record Leaving (P : Op → Type 0) (Low : ℕ → Type 0) (scope : Scope) (l : Lowering) : Type 0 where
  pub value : (made : Made) → Low made.free → Makes (λ v. Leaves P made v.made) (l.value scope made)
  pub condition : (free : ℕ) → Low free → Makes (LeavesAsked P free) (l.condition scope free)
  pub target : (made : Made) → Low made.free → Makes (λ t. Leaves P made t.made) (l.target scope made)
  pub unused : (made : Made) → Low made.free → Makes (Leaves P made) (l.unused scope made)

-- and so does an initialiser
abbrev pub FillsLeaving : (P : Op → Type 0) → (Low : ℕ → Type 0) → Scope → Filling → Type 0
FillsLeaving P Low scope f = (ty : Type_) (made : Made) → Low made.free → Makes (λ v. Leaves P made v.made) (f.value scope ty made)

-- A statement appends items whose operations all have the property, in loops too, and what is free behind it isn't below what was free before.
pub record Appends (P : Op → Type 0) (before after : Made) : Type 0 where
  pub items : List Item
  pub appended : after.items ≡ before.items ++ items
  pub each : EachOp P (items_code items)
  pub up : before.free ≤ after.free
