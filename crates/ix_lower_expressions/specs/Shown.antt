-- What a scope of the code is as a scope of the definition.
use Rattle.std.specs.Prelude.{ℕ, Bool, true, false, List, [], ◌∷◌, map, Option, Some, None, if◌then◌else◌}
use Rattle.ix_core.specs.declared.claim.Type_.{Type_}
use Rattle.ix_core.specs.declared.op.OpKind.{OpKind}
use Rattle.ix_core.specs.declared.op.OpKind.TheVariants as op
use Rattle.ix_core.specs.declared.op.UnaryNum.{UnaryNum}
use Rattle.ix_core.specs.declared.op.UnaryNum.TheVariants as number
use Rattle.ix_tree.specs.declared.expr.BinaryOp.{BinaryOp}
use Rattle.ix_tree.specs.declared.expr.BinaryOp.TheVariants as binary
use Rattle.ix_tree.specs.declared.expr.UnaryOp.{UnaryOp}
use Rattle.ix_tree.specs.declared.expr.UnaryOp.TheVariants as unary
use Rattle.ix_tree.specs.declared.expr.Expr.{Expr, fold-Expr}
use Rattle.ix_tree.specs.declared.expr.ExprKind.{ExprKind, ExprKind-F, fold-ExprKind}
use Rattle.ix_tree.specs.declared.expr.Init.{Init}
use Rattle.ix_symbols.specs.Numbered.{shown}
use Rattle.ix_meaning.specs.declared.note.Meaning.{Meaning}
use Rattle.ix_meaning.specs.declared.note.Meaning.TheVariants as meaning
use Rattle.ix_text.specs.declared.span.Span.{Span}
use Rattle.ix_plain.specs.declared.body.Head.{Head}
use Rattle.ix_plain.specs.declared.made.Made.{Made}
use Rattle.ix_plain.specs.declared.made.Spot.{Spot}
use Rattle.ix_plain.specs.declared.made.Spot.TheVariants as spot
use Rattle.ix_plain.specs.Scope as spec
use Rattle.ix_plain.specs.Parts.{Within, Value, Asked, Target, in_place, ◌>>=◌}
use Rattle.ix_plain.specs.Values.{Lowering, Arguments, Entries, lowering, filling, arguments_from, entries_from, unused_object, object_value, calling}
use Rattle.ix_lower_expressions.specs.declared.expression.Form.{Form}
use Rattle.ix_lower_expressions.specs.declared.expression.Form.TheVariants as form
use Rattle.ix_lower_expressions.specs.declared.scope.Site.{Site}
use Rattle.ix_lower_expressions.specs.declared.scope.Scope.{Scope}

abbrev pub shown_site : Site → spec.Site
shown_site site = record {
  names = shown site.table.now;
  heads = site.heads.now;
  constructors = site.constructors.now;
  class = site.class;
  params = site.params.now;
  answers = site.answers;
}

abbrev pub shown_scope : Scope → spec.Scope
shown_scope scope = record { site = shown_site scope.site; locals = scope.locals.now; assigned = scope.assigned.now }

-- ---- what an expression becomes in a scope of the code

abbrev pub valued : Scope → Expr → Made → Within Value
valued scope expr made = (lowering expr).value (shown_scope scope) made

abbrev pub asked : Scope → Expr → ℕ → Within Asked
asked scope expr free = (lowering expr).condition (shown_scope scope) free

abbrev pub targeted : Scope → Expr → Made → Within Target
targeted scope expr made = (lowering expr).target (shown_scope scope) made

abbrev pub left_unused : Scope → Expr → Made → Within Made
left_unused scope expr made = (lowering expr).unused (shown_scope scope) made

abbrev pub all_given : Scope → List Expr → Made → Within Arguments
all_given scope exprs made = arguments_from [] (map lowering exprs) (shown_scope scope) made

abbrev pub initial : Scope → Init → Type_ → Made → Within Value
initial scope init ty made = (filling init).value (shown_scope scope) ty made

abbrev pub all_initial : Scope → List Init → Type_ → Made → Within Entries
all_initial scope inits ty made = entries_from [] (map filling inits) (shown_scope scope) ty made

-- ---- by which function of the code a form is made

abbrev pub form_of_unary : UnaryOp → Form
form_of_unary unary.Not = form.Asks
form_of_unary _ = form.Operates

abbrev pub form_of_binary : BinaryOp → Form
form_of_binary (binary.Num arith) = form.Operates
form_of_binary _ = form.Asks

abbrev pub form_step : ExprKind-F Form Form Form → Form
form_step (ExprKind-F.Unary operator operand) = form_of_unary operator
form_step (ExprKind-F.Binary operator left right) = form_of_binary operator
form_step (ExprKind-F.Call object name args) = form.Calls
form_step (ExprKind-F.New name args) = form.Creates
form_step (ExprKind-F.NewArray ty size) = form.Creates
form_step (ExprKind-F.NewItems ty items) = form.Creates
form_step (ExprKind-F.Select object name) = form.Selects
form_step (ExprKind-F.Index array index) = form.Selects
form_step (ExprKind-F.Assign operator target value) = form.Assigns
form_step (ExprKind-F.Step up after target) = form.Assigns
form_step _ = form.Computes

abbrev pub form_of : ExprKind → Form
form_of = fold-ExprKind Form Form Form form_step (λ init. form.Computes) (λ expr. expr.kind)

-- ---- names of classes

abbrev pub is_class : Option Meaning → Bool
is_class (Some (meaning.ClassNamed class)) = true
is_class _ = false

abbrev pub class_name_step : ExprKind-F (spec.Scope → Bool) (spec.Scope → Bool) (spec.Scope → Bool) → spec.Scope → Bool
class_name_step (ExprKind-F.Name name) scope = is_class (spec.meaning_at scope name.span)
class_name_step _ scope = false

abbrev pub is_class_name : spec.Scope → Expr → Bool
is_class_name scope expr = fold-Expr (spec.Scope → Bool) (spec.Scope → Bool) (spec.Scope → Bool) class_name_step (λ init scope. false) (λ expr. expr.kind) expr scope

-- ---- what is read of an object

abbrev pub member_read : ℕ → ℕ → Option Meaning → OpKind
member_read target object (Some (meaning.FieldNamed field)) = op.ReadField target object field
member_read target object _ = op.Length target object

-- ---- the places of the parts of a write

abbrev pub part_spans : Spot → Span → Span → List Span
part_spans (spot.Cell array index ty at) target from = from ∷ []
part_spans _ target from = target ∷ from ∷ []

-- ---- calls

-- What stands before the dot: evaluated only, where the method is static, and else the object that it is called on, which is `this` without a dot.
abbrev pub received : Bool → Option Lowering → spec.Scope → Made → Within Value
received true object scope made = unused_object object scope made >>= (λ before. in_place before 0)
received false object scope made = object_value object scope made

abbrev pub class_of_object : spec.Scope → Option Expr → ℕ
class_of_object scope None = scope.site.class
class_of_object scope (Some object) = spec.class_of (spec.type_at scope object.span)

-- a call of a static method, or of another on an object of a class
abbrev pub call_on : Head → ℕ → ℕ → ℕ → Span → Arguments → Within Value
call_on head method object class span given =
    if head.is_static then calling op.StaticCall method None head.class span given else calling op.InstanceCall method (Some object) class span given

-- ---- operators with one operand on ints

abbrev pub unary_num : UnaryOp → UnaryNum
unary_num unary.Minus = number.Neg
unary_num _ = number.Flip
