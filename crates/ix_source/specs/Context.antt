-- What the meaning of an expression or a statement stands in.
use Rattle.std.specs.Prelude.{ℕ, Bool, List, Option, Some, None}
use Rattle.ix_text.specs.declared.span.Span.{Span}
use Rattle.ix_core.specs.declared.claim.Type_.{Type_}
use Rattle.ix_core.specs.declared.claim.Type_.TheVariants as type
use Rattle.ix_core.specs.Heap.{Held}
use Rattle.ix_meaning.specs.declared.note.Declared.{Declared}
use Rattle.ix_meaning.specs.declared.note.Meaning.{Meaning}
use Rattle.ix_meaning.specs.Resolved.{Names}
use Rattle.ix_source.specs.Runs.{Action}

-- What a source says of its classes, by the numbers of methods, fields and classes.
pub record Members : Type 0 where
  -- whether the method has no `this`
  pub is_static : ℕ → Bool
  -- the method that runs where the named one is called on an object of the class: class, named method
  pub found : ℕ → ℕ → ℕ
  -- the place of a field among the fields of an object of the class, if it has it
  pub place : ℕ → ℕ → Option ℕ
  -- what the fields of a new object of the class hold
  pub fresh : ℕ → List Held

-- How calls run.
pub record Calls : Type 0 where
  -- a method by its number, with `this` and its arguments; what it gives back, if it has a result
  pub method : ℕ → Held → List Held → Action (Option Held)
  -- the constructor of a class on an object, with its arguments
  pub construct : ℕ → Held → List Held → Action Unit

pub record Context : Type 0 where
  pub names : Names
  pub members : Members
  pub calls : Calls
  -- the most turns that one entry into a loop makes
  pub turns : ℕ

-- A source without errors on names has a meaning at each use and a type at each expression. Of any other, what isn't there counts as no type.

abbrev pub meaning_at : Context → Span → Option Meaning
meaning_at context span = context.names.meaning span

abbrev pub or_void : Option Type_ → Type_
or_void None = type.Void
or_void (Some ty) = ty

-- the type of the expression at that place; of a null the type that its place needs
abbrev pub type_at : Context → Span → Type_
type_at context span = or_void (context.names.type_of span)

abbrev pub type_declared : Option Declared → Type_
type_declared None = type.Void
type_declared (Some declared) = declared.ty

abbrev pub declared_at : Context → Span → Type_
declared_at context span = type_declared (context.names.declared span)
