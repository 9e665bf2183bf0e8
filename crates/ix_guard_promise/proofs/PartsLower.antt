-- What lowering makes of each form of expression in a guard's test.
use Rattle.std.proofs.Common.{◌≡◌, ℕ, true, [], pos, None, Some, refl, ap, ◌∙◌, Option}
use Rattle.std.proofs.lemmas.Bool.{false≢true}
use Rattle.ix_num.specs.declared.rel.Rel.{Rel}
use Rattle.ix_text.specs.declared.span.Span.{Span}
use Rattle.ix_core.specs.declared.op.Literal.TheVariants as literal
use Rattle.ix_core.specs.declared.op.OpKind.TheVariants as op
use Rattle.ix_tree.specs.declared.annot.Ident.{Ident}
use Rattle.ix_tree.specs.declared.expr.BinaryOp.TheVariants as binary
use Rattle.ix_tree.specs.declared.expr.Expr.{Expr}
use Rattle.ix_tree.specs.declared.expr.ExprKind.TheVariants as e
use Rattle.ix_tree.proofs.FoldsOfForms as fold
use Rattle.ix_meaning.specs.declared.note.Meaning.{Meaning}
use Rattle.ix_meaning.specs.declared.note.Meaning.TheVariants as meaning
use Rattle.ix_guard.specs.Tests.{is_variable}
use Rattle.ix_guard.specs.Trees.{expression, named, either}
use Rattle.ix_plain.specs.declared.made.Made.{Made}
use Rattle.ix_plain.specs.Scope.{Scope, slot_of, meaning_at, type_at}
use Rattle.ix_plain.specs.Parts.{in_place, computed}
use Rattle.ix_plain.specs.Values as values
use Rattle.ix_plain.specs.Values.{Lowering, lowering}
use Rattle.ix_guard_promise.specs.TestTrees.{IsIn}

-- ---- each form, as its place wants it

name_lowers : (name : Ident) → lowering (named name) ≡ values.name name name.span
name_lowers name = fold.expr_is values.kind_step values.init_step values.expr_step (e.Name name) name.span
    ∙ ap (λ kind. values.expr_step (record { kind = kind; span = name.span })) (fold.name_kind values.kind_step values.init_step values.expr_step name)

null_lowers : (span : Span) → lowering (expression e.Null span) ≡ values.null span
null_lowers span = fold.expr_is values.kind_step values.init_step values.expr_step e.Null span
    ∙ ap (λ kind. values.expr_step (record { kind = kind; span = span })) (fold.null_kind values.kind_step values.init_step values.expr_step)

zero_lowers : (span : Span) → lowering (expression (e.Int (pos 0)) span) ≡ values.computes (λ scope made. values.int_value (pos 0) span made) span
zero_lowers span = fold.expr_is values.kind_step values.init_step values.expr_step (e.Int (pos 0)) span
    ∙ ap (λ kind. values.expr_step (record { kind = kind; span = span })) (fold.int_kind values.kind_step values.init_step values.expr_step (pos 0))

selection_lowers : (object : Expr) (name : Ident) (span : Span) → lowering (expression (e.Select object name) span) ≡ values.selection (lowering object) name span
selection_lowers object name span = fold.expr_is values.kind_step values.init_step values.expr_step (e.Select object name) span
    ∙ ap (λ kind. values.expr_step (record { kind = kind; span = span })) (fold.select_kind values.kind_step values.init_step values.expr_step object name)

pub comparison_lowers : (rel : Rel) (left right : Expr) (span : Span)
    → lowering (expression (e.Binary (binary.Compare rel) left right) span) ≡ values.asks (values.compared rel (lowering left) (lowering right)) span
comparison_lowers rel left right span = fold.expr_is values.kind_step values.init_step values.expr_step (e.Binary (binary.Compare rel) left right) span
    ∙ ap (λ kind. values.expr_step (record { kind = kind; span = span })) (fold.binary_kind values.kind_step values.init_step values.expr_step (binary.Compare rel) left right)

pub either_lowers : (left right : Expr) (span : Span) → lowering (either span left right) ≡ values.asks (values.either (lowering left) (lowering right)) span
either_lowers left right span = fold.expr_is values.kind_step values.init_step values.expr_step (e.Binary binary.OrElse left right) span
    ∙ ap (λ kind. values.expr_step (record { kind = kind; span = span })) (fold.binary_kind values.kind_step values.init_step values.expr_step binary.OrElse left right)

-- ---- names, used in place

variable_stays : (scope : Scope) (span : Span) (said : Option Meaning) (made : Made) → scope.assigned ≡ [] → is_variable said ≡ true
    → values.named scope span said made ≡ in_place made (slot_of scope said)
variable_stays scope span (Some (meaning.Local number)) made free variable = rw free refl
variable_stays scope span (Some (meaning.Param number)) made free variable = rw free refl
variable_stays scope span (Some (meaning.FieldNamed field)) made free variable = absurd (false≢true variable)
variable_stays scope span (Some (meaning.Constant n)) made free variable = absurd (false≢true variable)
variable_stays scope span (Some (meaning.ClassNamed class)) made free variable = absurd (false≢true variable)
variable_stays scope span (Some (meaning.MethodNamed method)) made free variable = absurd (false≢true variable)
variable_stays scope span (Some meaning.LengthOf) made free variable = absurd (false≢true variable)
variable_stays scope span None made free variable = absurd (false≢true variable)

pub name_span : (name : Ident) → (lowering (named name)).span ≡ name.span
name_span name = ap (λ l. l.span) (name_lowers name)

pub name_value : (scope : Scope) (slot : ℕ) (name : Ident) (made : Made) → scope.assigned ≡ [] → IsIn scope slot name → (lowering (named name)).value scope made ≡ in_place made slot
name_value scope slot name made free is = ap (λ l. l.value scope made) (name_lowers name)
    ∙ variable_stays scope name.span (meaning_at scope name.span) made free is.variable ∙ ap (in_place made) is.in_slot

-- ---- the right sides

pub null_value : (scope : Scope) (span : Span) (made : Made)
    → (lowering (expression e.Null span)).value scope made ≡ computed made (op.Const made.free (literal.NullOf (type_at scope span))) span
null_value scope span made = ap (λ l. l.value scope made) (null_lowers span)

pub zero_value : (scope : Scope) (span : Span) (made : Made) → (lowering (expression (e.Int (pos 0)) span)).value scope made ≡ computed made (op.Const made.free (literal.Int (pos 0))) span
zero_value scope span made = ap (λ l. l.value scope made) (zero_lowers span)

length_selected : (scope : Scope) (object : Lowering) (span : Span) (made : Made) (slot : ℕ) (said : Option Meaning) → said ≡ Some meaning.LengthOf → object.value scope made ≡ in_place made slot
    → values.selected object span scope said made ≡ computed made (op.Length made.free slot) span
length_selected scope object span made slot said is stays = rw (is, stays) refl

pub length_value : (scope : Scope) (slot : ℕ) (array length : Ident) (span : Span) (made : Made) → scope.assigned ≡ [] → IsIn scope slot array → meaning_at scope length.span ≡ Some meaning.LengthOf
    → (lowering (expression (e.Select (named array) length) span)).value scope made ≡ computed made (op.Length made.free slot) span
length_value scope slot array length span made free is means = ap (λ l. l.value scope made) (selection_lowers (named array) length span)
    ∙ length_selected scope (lowering (named array)) span made slot (meaning_at scope length.span) means (name_value scope slot array made free is)
