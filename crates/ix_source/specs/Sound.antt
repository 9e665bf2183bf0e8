-- Whether the names in an expression mean what its places need: a variable one that owns its slot, an assigned one among those that the full expression assigns, `this` and
-- fields of it where there is an object, a call a written method, a creation a class of the source; and what is used has a value, since its type isn't `void`.
--
-- It is a test on the tree, beside the fold of lowering. An induction over expressions takes `(soundness e).value z ≡ true` as the hypothesis of each expression, and what
-- its parts have by splitting the test of the whole (`and_parts`, and the lemmas of `ix_source/proofs/SoundUses` for names, selections and calls): an operand, an argument or an entry is
-- `used`, what stands before the dot of a static member is `unused`, and what is assigned has `target`. What the setting of a sound full expression has besides is in
-- `ix_source/proofs/AssignedOwned`.
use Rattle.std.specs.Prelude.{ℕ, ◌==◌, Bool, true, false, not, ◌&&◌, ◌||◌, List, [], ◌∷◌, length, nat_lt, Option, Some, None, is_some}
use Rattle.ix_text.specs.declared.span.Span.{Span}
use Rattle.ix_core.specs.Tables.{Tables}
use Rattle.ix_core.specs.Types.{is_void}
use Rattle.ix_tree.specs.declared.annot.Ident.{Ident}
use Rattle.ix_tree.specs.declared.expr.Expr.{Expr, Expr-F, fold-Expr}
use Rattle.ix_tree.specs.declared.expr.ExprKind.{ExprKind-F}
use Rattle.ix_tree.specs.declared.expr.Init.{Init, Init-F, fold-Init}
use Rattle.ix_meaning.specs.declared.note.Meaning.{Meaning}
use Rattle.ix_meaning.specs.declared.note.Meaning.TheVariants as meaning
use Rattle.ix_plain.specs.Scope.{Site, slot_of, meaning_at, type_at, is_among, head_at}
use Rattle.ix_source.specs.Along.{Setting}

-- Whether an expression is sound where it stands, as each place wants it.
pub record Soundness : Type 0 where
  pub span : Span
  -- where it is evaluated
  pub value : Setting → Bool
  -- where it is the target of an assignment (JLS 15.26): a variable, a field or an element
  pub target : Setting → Bool
  -- where it stands before a dot and its value isn't used
  pub unused : Setting → Bool

-- where its value is used
abbrev pub used : Soundness → Setting → Bool
used part z = part.value z && not (is_void (type_at z.scope part.span))

abbrev pub all_used : List Soundness → Setting → Bool
all_used [] z = true
all_used (first ∷ rest) z = used first z && all_used rest z

-- an expression that computes a value and can't be assigned
abbrev pub computes : (Setting → Bool) → Span → Soundness
computes value span = record { span = span; value = value; target = λ z. false; unused = value }

-- ---- names (JLS 6.5)

abbrev pub is_same : Meaning → Option Meaning → Bool
is_same (meaning.Local number) (Some (meaning.Local other)) = other == number
is_same (meaning.Param number) (Some (meaning.Param other)) = other == number
is_same _ _ = false

-- A variable in scope: its slot holds no other.
abbrev pub is_own : Setting → Meaning → Bool
is_own z variable = is_same variable (z.owner (slot_of z.scope (Some variable)))

abbrev pub is_assigned : Setting → Meaning → Bool
is_assigned z variable = is_own z variable && is_among (slot_of z.scope (Some variable)) z.scope.assigned

-- a variable in scope, a field of `this` where there is an object, or a constant
abbrev pub named : Setting → Option Meaning → Bool
named z (Some (meaning.Local number)) = is_own z (meaning.Local number)
named z (Some (meaning.Param number)) = is_own z (meaning.Param number)
named z (Some (meaning.FieldNamed field)) = z.has_this
named z (Some (meaning.Constant n)) = true
named z _ = false

-- a variable that is among those that the full expression assigns, or a field of `this`
abbrev pub named_target : Setting → Option Meaning → Bool
named_target z (Some (meaning.Local number)) = is_assigned z (meaning.Local number)
named_target z (Some (meaning.Param number)) = is_assigned z (meaning.Param number)
named_target z (Some (meaning.FieldNamed field)) = z.has_this
named_target z _ = false

-- before a dot also the name of a class
abbrev pub named_unused : Setting → Option Meaning → Bool
named_unused z (Some (meaning.ClassNamed class)) = true
named_unused z other = named z other

abbrev pub name : Ident → Span → Soundness
name ident span = record {
  span = span;
  value = λ z. named z (meaning_at z.scope ident.span);
  target = λ z. named_target z (meaning_at z.scope ident.span);
  unused = λ z. named_unused z (meaning_at z.scope ident.span);
}

-- ---- selections (JLS 15.11)

-- a constant, a field of an object or the length of an array
abbrev pub selected : Soundness → Setting → Option Meaning → Bool
selected object z (Some (meaning.Constant n)) = object.unused z
selected object z (Some (meaning.FieldNamed field)) = used object z
selected object z (Some meaning.LengthOf) = used object z
selected object z _ = false

abbrev pub selected_target : Soundness → Setting → Option Meaning → Bool
selected_target object z (Some (meaning.FieldNamed field)) = used object z
selected_target object z _ = false

abbrev pub selection : Soundness → Ident → Span → Soundness
selection object ident span = record {
  span = span;
  value = λ z. selected object z (meaning_at z.scope ident.span);
  target = λ z. selected_target object z (meaning_at z.scope ident.span);
  unused = λ z. selected object z (meaning_at z.scope ident.span);
}

-- ---- elements (JLS 15.10.3)

abbrev pub both_used : Soundness → Soundness → Setting → Bool
both_used left right z = used left z && used right z

abbrev pub element : Soundness → Soundness → Span → Soundness
element array index span = record { span = span; value = both_used array index; target = both_used array index; unused = both_used array index }

-- ---- calls (JLS 15.12, 15.9)

-- the number of a written method that is no constructor
abbrev pub is_method : Tables → Site → ℕ → Bool
is_method tables site method = nat_lt method (length site.heads) && not (tables.routines method).constructor

-- the number of a class
abbrev pub is_class : Site → ℕ → Bool
is_class site class = nat_lt class (length site.constructors)

-- A call whose type isn't `void` is one of a method that gives something back.
abbrev pub has_result : Setting → ℕ → Span → Bool
has_result z method span = is_some (z.tables.routines method).default || is_void (type_at z.scope span)

-- What stands before the dot of a static method isn't used; without a dot an instance method is one of `this`.
abbrev pub received : Option Soundness → Bool → Setting → Bool
received None true z = true
received None false z = z.has_this
received (Some object) true z = object.unused z
received (Some object) false z = used object z

abbrev pub called : Option Soundness → List Soundness → Span → Setting → Option Meaning → Bool
called object args span z (Some (meaning.MethodNamed method)) =
    is_method z.tables z.scope.site method && (has_result z method span && (received object (head_at z.scope.site method).is_static z && all_used args z))
called object args span z _ = false

abbrev pub created : List Soundness → Setting → Option Meaning → Bool
created args z (Some (meaning.ClassNamed class)) = is_class z.scope.site class && all_used args z
created args z _ = false

-- ---- all forms

abbrev pub all_sound : List (Setting → Bool) → Setting → Bool
all_sound [] z = true
all_sound (first ∷ rest) z = first z && all_sound rest z

abbrev pub kind_step : ExprKind-F (Span → Soundness) (Setting → Bool) Soundness → Span → Soundness
kind_step (ExprKind-F.Int n) = computes (λ z. true)
kind_step (ExprKind-F.Bool answer) = computes (λ z. true)
kind_step ExprKind-F.Null = computes (λ z. true)
kind_step ExprKind-F.This = computes (λ z. z.has_this)
kind_step (ExprKind-F.Name ident) = name ident
kind_step (ExprKind-F.Select object ident) = selection object ident
kind_step (ExprKind-F.Index array index) = element array index
kind_step (ExprKind-F.Call object ident args) = λ span. computes (λ z. called object args span z (meaning_at z.scope ident.span)) span
kind_step (ExprKind-F.New ident args) = computes (λ z. created args z (meaning_at z.scope ident.span))
kind_step (ExprKind-F.NewArray ty size) = computes (used size)
kind_step (ExprKind-F.NewItems ty items) = computes (all_sound items)
kind_step (ExprKind-F.Unary operator operand) = computes (used operand)
kind_step (ExprKind-F.Binary operator left right) = computes (both_used left right)
kind_step (ExprKind-F.Assign operator target value) = computes (λ z. target.target z && used value z)
kind_step (ExprKind-F.Step up after target) = computes target.target

abbrev pub init_step : Init-F (Span → Soundness) (Setting → Bool) Soundness → Setting → Bool
init_step (Init-F.Value expr) = used expr
init_step (Init-F.Items items span) = all_sound items

abbrev pub expr_step : Expr-F (Span → Soundness) (Setting → Bool) Soundness → Soundness
expr_step expr = record (expr.kind expr.span) { span = expr.span }

-- whether an expression is sound
abbrev pub soundness : Expr → Soundness
soundness = fold-Expr (Span → Soundness) (Setting → Bool) Soundness kind_step init_step expr_step

-- whether an initialiser is
abbrev pub init_soundness : Init → Setting → Bool
init_soundness = fold-Init (Span → Soundness) (Setting → Bool) Soundness kind_step init_step expr_step
