-- Where the names that an expression assigns are, beside the slots of an array and an index.
use Rattle.std.specs.Prelude.{◌≡◌, ℕ, false, ◌==◌, List, [], ◌∷◌, Option, None, Some}
use Rattle.ix_text.specs.declared.span.Span.{Span}
use Rattle.ix_tree.specs.declared.decl.LocalDecl.{LocalDecl}
use Rattle.ix_tree.specs.declared.expr.Expr.{Expr}
use Rattle.ix_tree.specs.declared.expr.Init.{Init}
use Rattle.ix_meaning.specs.declared.note.Meaning.{Meaning}
use Rattle.ix_meaning.specs.declared.note.Meaning.TheVariants as meaning
use Rattle.ix_plain.specs.declared.body.Body.{Body}
use Rattle.ix_plain.specs.declared.made.Spot.{Spot}
use Rattle.ix_plain.specs.declared.made.Spot.TheVariants as spot
use Rattle.ix_plain.specs.Scope.{Site, Scope, slot_of, meaning_at}
use Rattle.ix_plain.specs.Values.{named_spot}
use Rattle.ix_plain.specs.Statements.{scope_of, with_local, declaration}
use Rattle.ix_formed.specs.Additions.{Makes, AllOf}
use Rattle.ix_guard.specs.Accesses.{parts_of, init_parts}
use Rattle.ix_guard.specs.Tests.{same_variable}
use Rattle.ix_guard_promise.specs.AllAccesses.{all_accesses, init_accesses}
use Rattle.ix_guard_promise.specs.OnlyThere.{OnlyThere}

-- The spot is a field, a cell, or a variable in neither slot.
abbrev pub IsApart : (array index : ℕ) → Spot → Type 0
IsApart array index (spot.Variable slot) = ((array == slot) ≡ false) × ((index == slot) ≡ false)
IsApart array index (spot.FieldOf object field) = Unit {0}
IsApart array index (spot.Cell of at ty span) = Unit {0}

-- so of what the name at that place means
abbrev pub MeansApart : (array index : ℕ) → Scope → Span → Type 0
MeansApart array index scope span = IsApart array index (named_spot scope (meaning_at scope span))

-- so of each of these places of names, as those that an expression assigns
abbrev pub AssignsApart : (array index : ℕ) → Scope → List Span → Type 0
AssignsApart array index scope spans = AllOf (MeansApart array index scope) spans

-- ---- full expressions in a body

-- What is asked of an expression in a body: no name that it assigns means a variable in one of the slots, and at the place only the access on these variables is made.
pub record IsKept (place : Span) (array index : ℕ) (site : Site) (e : Expr) (body : Body) : Type 0 where
  pub apart : AssignsApart array index (scope_of site body []) (parts_of e).assigned
  pub only : OnlyThere place array index (scope_of site body []) (all_accesses e)

-- so of an initialiser
pub record IsInitKept (place : Span) (array index : ℕ) (site : Site) (i : Init) (body : Body) : Type 0 where
  pub apart : AssignsApart array index (scope_of site body []) (init_parts i).assigned
  pub only : OnlyThere place array index (scope_of site body []) (init_accesses i)

abbrev pub MaybeKept : (place : Span) → (array index : ℕ) → Site → Option Init → Body → Type 0
MaybeKept place array index site None body = Unit {0}
MaybeKept place array index site (Some init) body = IsInitKept place array index site init body

-- ---- declarations of locals

-- so of a declaration's initialiser, in the body where its local is in scope
abbrev pub DeclKept : (place : Span) → (array index : ℕ) → Site → (end : ℕ) → LocalDecl → Body → Type 0
DeclKept place array index site end decl body = Makes (MaybeKept place array index site decl.init) (with_local decl.name end site body)

-- one after the other
abbrev pub DeclsKept : (place : Span) → (array index : ℕ) → Site → (end : ℕ) → List LocalDecl → Body → Type 0
DeclsKept place array index site end [] body = Unit {0}
DeclsKept place array index site end (decl ∷ decls) body =
    DeclKept place array index site end decl body × Makes (DeclsKept place array index site end decls) (declaration decl site end body)

-- ---- variables by what their names mean

-- What is assigned is a field or a variable, and where that is another variable than this one, its slot is another.
abbrev pub OwnsSlot : Scope → (variable assigned : Option Meaning) → Type 0
OwnsSlot scope variable (Some (meaning.FieldNamed field)) = Unit {0}
OwnsSlot scope variable (Some (meaning.Local number)) =
    same_variable variable (Some (meaning.Local number)) ≡ false → (slot_of scope variable == slot_of scope (Some (meaning.Local number))) ≡ false
OwnsSlot scope variable (Some (meaning.Param number)) =
    same_variable variable (Some (meaning.Param number)) ≡ false → (slot_of scope variable == slot_of scope (Some (meaning.Param number))) ≡ false
OwnsSlot scope variable _ = ⊥

-- so of each of these places of names
abbrev pub OwnsAmong : Scope → Option Meaning → List Span → Type 0
OwnsAmong scope variable spans = AllOf (λ span. OwnsSlot scope variable (meaning_at scope span)) spans
