-- Accesses at a place that are on two variables alone.
use Rattle.std.specs.Prelude.{◌≡◌, ℕ, true, List, Option, Some, None}
use Rattle.ix_text.specs.declared.span.Span.{Span}
use Rattle.ix_tree.specs.declared.annot.Ident.{Ident}
use Rattle.ix_plain.specs.Scope.{Scope, slot_of, meaning_at}
use Rattle.ix_formed.specs.Additions.{AllOf}
use Rattle.ix_guard.specs.Tests.{is_variable}
use Rattle.ix_guard_promise.specs.AllAccesses.{AnyAccess}

-- The name means a local or a parameter in that slot.
pub record IsNameOf (scope : Scope) (slot : ℕ) (name : Ident) : Type 0 where
  pub variable : is_variable (meaning_at scope name.span) ≡ true
  pub in_slot : slot_of scope (meaning_at scope name.span) ≡ slot

-- It is a name, and means that.
abbrev pub Names : Scope → (slot : ℕ) → Option Ident → Type 0
Names scope slot None = ⊥
Names scope slot (Some name) = IsNameOf scope slot name

-- Where the access stands at the place, it is one on the variables in these two slots.
abbrev pub IsOnThese : (place : Span) → (array index : ℕ) → Scope → AnyAccess → Type 0
IsOnThese place array index scope access = access.place ≡ place → Names scope array access.array × Names scope index access.index

-- At the place only the access on these two variables is made.
abbrev pub OnlyThere : (place : Span) → (array index : ℕ) → Scope → List AnyAccess → Type 0
OnlyThere place array index scope accesses = AllOf (IsOnThese place array index scope) accesses
