-- The rules on names and types. Each is one definition, and the other files only say where it is asked.
use Rattle.std.specs.Prelude.{ℕ, ◌==◌, Bool, true, false, not, ◌&&◌, ◌||◌, Option, Some, None, is_some, List, [], ◌∷◌}
use Rattle.ix_text.specs.declared.span.Span.{Span}
use Rattle.ix_core.specs.declared.claim.Type_.{Type_ as Ty}
use Rattle.ix_meaning.specs.declared.note.Meaning.{Meaning}
use Rattle.ix_meaning.specs.declared.note.Note.{Note}
use Rattle.ix_meaning.specs.declared.note.Rule.TheVariants as rule
use Rattle.ix_meaning.specs.declared.note.Note.TheVariants.{Use}
use Rattle.ix_meaning.specs.declared.members.Field.{Field}
use Rattle.ix_meaning.specs.Types.{Need, unknown, never, printed, of, fits, can_compare, is_primitive, is_reference, element, wrong, wrong_if}
use Rattle.ix_meaning.specs.Members.{World}
use Rattle.ix_meaning.specs.Scope.{Scope}

-- unknown.name: no declaration of that name is in scope.
abbrev pub unknown_name : Span → List Note
unknown_name p = wrong rule.UnknownName p

-- duplicate.name: a name is declared while it is taken.
abbrev pub duplicate_name : Bool → Span → List Note
duplicate_name taken p = wrong_if taken rule.DuplicateName p

-- type.mismatch: an expression hasn't the type that its place needs. It isn't derived of what has no type, nor where the needed type is unknown.
abbrev pub has_fitting_type : World → Need → Ty → Bool
has_fitting_type w unknown t = true
has_fitting_type w never t = false
has_fitting_type w printed t = is_primitive t
has_fitting_type w (of need) t = fits w.supers t need

abbrev pub type_mismatch : World → Need → Option Ty → Span → List Note
type_mismatch w need None p = []
type_mismatch w need (Some t) p = wrong_if (not (has_fitting_type w need t)) rule.TypeMismatch p

-- type.mismatch, for `null`: its place needs no reference.
abbrev pub null_mismatch : Need → Span → List Note
null_mismatch unknown p = []
null_mismatch (of need) p = wrong_if (not (is_reference need)) rule.TypeMismatch p
null_mismatch _ p = wrong rule.TypeMismatch p

-- type.mismatch, for a list in braces: its place needs no array.
abbrev pub list_mismatch : Need → Span → List Note
list_mismatch (of need) p = wrong_if (not (is_some (element need))) rule.TypeMismatch p
list_mismatch _ p = []

-- type.mismatch, for the operands of `==` and `!=`
abbrev pub cannot_compare : World → Option Ty → Option Ty → Span → List Note
cannot_compare w (Some t) (Some u) p = wrong_if (not (can_compare w.supers t u)) rule.TypeMismatch p
cannot_compare w _ _ p = []

-- type.mismatch, for `return;` in a method with a result
abbrev pub no_value : Option Need → Span → List Note
no_value None p = []
no_value (Some need) p = wrong rule.TypeMismatch p

-- wrong.arguments: a call has another number of arguments than the method or constructor has parameters.
abbrev pub wrong_arguments : ℕ → ℕ → Span → List Note
wrong_arguments arguments params p = wrong_if (not (arguments == params)) rule.WrongArguments p

-- cyclic.class: a class is its own superclass.
abbrev pub cyclic_class : Bool → Span → List Note
cyclic_class is_cyclic p = wrong_if is_cyclic rule.CyclicClass p

-- not.static: `this` or a member of it is used where there is no object.
abbrev pub not_static : Scope → Bool → Span → List Note
not_static s is_static p = wrong_if (not s.has_object && not is_static) rule.NotStatic p

-- not.static, for a member behind a class's name
abbrev pub not_static_in_class : Bool → Span → List Note
not_static_in_class is_static p = wrong_if (not is_static) rule.NotStatic p

-- final.assigned, for a parameter or a local
abbrev pub fixed_assigned : Bool → Bool → Span → List Note
fixed_assigned assigned is_fixed p = wrong_if (assigned && is_fixed) rule.FinalAssigned p

-- A final field may be assigned through `this` in a constructor of its own class.
abbrev pub may_assign : Bool → ℕ → Bool → Field → Bool
may_assign in_constructor class through_this f = not f.is_final || (not f.is_static && (through_this && (in_constructor && f.class == class)))

-- final.assigned, for a field or a constant
abbrev pub final_assigned : Bool → ℕ → Bool → Bool → Field → Span → List Note
final_assigned in_constructor class assigned through_this f p = wrong_if (assigned && not (may_assign in_constructor class through_this f)) rule.FinalAssigned p

-- not.assignable: an assignment to the length of an array.
abbrev pub not_assignable : Bool → Span → List Note
not_assignable assigned p = wrong_if assigned rule.NotAssignable p

-- break.outside: `break` or `continue` stands in no loop.
abbrev pub break_outside_in : Bool → Span → List Note
break_outside_in in_loop p = wrong_if (not in_loop) rule.BreakOutside p

abbrev pub break_outside : Scope → Span → List Note
break_outside s p = break_outside_in s.in_loop p

-- ---- what a use means

abbrev pub use_of : Option Meaning → Span → List Note
use_of None p = []
use_of (Some m) p = Use p m ∷ []
