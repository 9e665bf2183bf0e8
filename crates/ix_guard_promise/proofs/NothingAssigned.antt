-- A guard's test assigns nothing.
use Rattle.std.proofs.Common.{◌≡◌, ℕ, List, pos, ap, ◌∙◌}
use Rattle.ix_text.specs.declared.span.Span.{Span}
use Rattle.ix_tree.specs.declared.annot.Ident.{Ident}
use Rattle.ix_tree.specs.declared.expr.BinaryOp.{BinaryOp}
use Rattle.ix_tree.specs.declared.expr.BinaryOp.TheVariants as binary
use Rattle.ix_num.specs.declared.rel.Rel.TheVariants.{Eq, Lt, Ge}
use Rattle.ix_tree.specs.declared.expr.Expr.{Expr}
use Rattle.ix_tree.specs.declared.expr.ExprKind.TheVariants as e
use Rattle.ix_tree.proofs.FoldsOfForms as fold
use Rattle.ix_guard.specs.Trees.{expression, named, either}
use Rattle.ix_plain.specs.Scope.{Scope}
use Rattle.ix_plain.specs.Assigned.{kind_step, init_step, expr_step, assigns}
use Rattle.ix_guard_text.specs.TestParts.{Parts, null_test, negative_test, high_test, condition_of}

-- behind the expression no other slots are known to be assigned than before it
abbrev pub AssignsNothing : Expr → Type 0
AssignsNothing expr = (scope : Scope) (known : List ℕ) → (assigns expr).inside scope known ≡ known

name_assigns : (name : Ident) → AssignsNothing (named name)
name_assigns name scope known = ap (λ a. a.inside scope known) (fold.expr_is kind_step init_step expr_step (e.Name name) name.span ∙ fold.name_kind kind_step init_step expr_step name)

null_assigns : (span : Span) → AssignsNothing (expression e.Null span)
null_assigns span scope known = ap (λ a. a.inside scope known) (fold.expr_is kind_step init_step expr_step e.Null span ∙ fold.null_kind kind_step init_step expr_step)

zero_assigns : (span : Span) → AssignsNothing (expression (e.Int (pos 0)) span)
zero_assigns span scope known = ap (λ a. a.inside scope known) (fold.expr_is kind_step init_step expr_step (e.Int (pos 0)) span ∙ fold.int_kind kind_step init_step expr_step (pos 0))

selection_assigns : (object : Expr) (name : Ident) (span : Span) → AssignsNothing object → AssignsNothing (expression (e.Select object name) span)
selection_assigns object name span one scope known =
    ap (λ a. a.inside scope known) (fold.expr_is kind_step init_step expr_step (e.Select object name) span ∙ fold.select_kind kind_step init_step expr_step object name) ∙ one scope known

binary_assigns : (operator : BinaryOp) (left right : Expr) (span : Span) → AssignsNothing left → AssignsNothing right → AssignsNothing (expression (e.Binary operator left right) span)
binary_assigns operator left right span one two scope known =
    ap (λ a. a.inside scope known) (fold.expr_is kind_step init_step expr_step (e.Binary operator left right) span ∙ fold.binary_kind kind_step init_step expr_step operator left right)
    ∙ ap ((assigns right).inside scope) (one scope known) ∙ two scope known

pub condition_assigns : (parts : Parts) → AssignsNothing (condition_of parts)
condition_assigns parts =
    binary_assigns binary.OrElse (either parts.first_two (null_test parts) (negative_test parts)) (high_test parts) parts.condition
    (binary_assigns binary.OrElse (null_test parts) (negative_test parts) parts.first_two
    (binary_assigns (binary.Compare Eq) (named parts.null_array) (expression e.Null parts.null) parts.is_null (name_assigns parts.null_array) (null_assigns parts.null))
    (binary_assigns (binary.Compare Lt) (named parts.negative_index) (expression (e.Int (pos 0)) parts.zero) parts.is_negative (name_assigns parts.negative_index) (zero_assigns parts.zero)))
    (binary_assigns (binary.Compare Ge) (named parts.high_index) (expression (e.Select (named parts.length_array) parts.length) parts.selection) parts.is_too_high
    (name_assigns parts.high_index) (selection_assigns (named parts.length_array) parts.length parts.selection (name_assigns parts.length_array)))
