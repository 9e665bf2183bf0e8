-- Two variables in scope where a statement stands, which an expression neither assigns nor makes other accesses with at a place.
use Rattle.std.specs.Prelude.{◌≡◌, ℕ, false, List, [], map, Option, Some, None}
use Rattle.std.specs.List.{list_any}
use Rattle.ix_text.specs.declared.span.Span.{Span}
use Rattle.ix_tree.specs.declared.annot.Ident.{Ident}
use Rattle.ix_meaning.specs.declared.note.Meaning.{Meaning}
use Rattle.ix_meaning.specs.Resolved.{Names}
use Rattle.ix_plain.specs.declared.body.Body.{Body}
use Rattle.ix_plain.specs.Scope.{slot_of}
use Rattle.ix_plain.specs.Statements.{scope_of}
use Rattle.ix_formed.specs.Additions.{AllOf}
use Rattle.ix_source.specs.Running.{Ground, in_scope}
use Rattle.ix_guard.specs.Tests.{same_variable}
use Rattle.ix_guard_promise.specs.AllAccesses.{AnyAccess}

-- The variable is in scope in the body, and this is its slot, which holds no other.
pub record IsAt (g : Ground) (body : Body) (variable : Meaning) (slot : ℕ) : Type 0 where
  pub in_slot : slot_of (scope_of g.site body []) (Some variable) ≡ slot
  pub holds : in_scope g.site body.locals body.made.free slot ≡ Some variable

-- It isn't among what these names mean.
abbrev pub IsUnnamed : Names → Meaning → List Span → Type 0
IsUnnamed names variable spans = list_any (same_variable (Some variable)) (map names.meaning spans) ≡ false

-- a name that means it
abbrev pub Calls : Names → Meaning → Option Ident → Type 0
Calls names variable None = ⊥
Calls names variable (Some name) = names.meaning name.span ≡ Some variable

-- Where the access stands at the place, its array and its index are names of these variables.
abbrev pub IsOfThese : Names → (place : Span) → (array index : Meaning) → AnyAccess → Type 0
IsOfThese names place array index access = access.place ≡ place → Calls names array access.array × Calls names index access.index

abbrev pub OnlyOf : Names → (place : Span) → (array index : Meaning) → List AnyAccess → Type 0
OnlyOf names place array index accesses = AllOf (IsOfThese names place array index) accesses
