-- How a test reads.
use Rattle.std.proofs.Common.{◌≡◌, ap, ap₂, ◌∙◌}
use Rattle.std.specs.Prelude.{pos}
use Rattle.ix_text.specs.declared.span.Span.{Span}
use Rattle.ix_num.specs.declared.rel.Rel.TheVariants.{Eq, Lt, Ge}
use Rattle.ix_tree.specs.declared.annot.Ident.{Ident}
use Rattle.ix_tree.specs.declared.expr.BinaryOp.{BinaryOp}
use Rattle.ix_tree.specs.declared.expr.BinaryOp.TheVariants.{Compare, OrElse}
use Rattle.ix_tree.specs.declared.expr.Expr.{Expr}
use Rattle.ix_tree.specs.declared.expr.ExprKind.{ExprKind, ExprKind-F}
use Rattle.ix_tree.specs.declared.expr.ExprKind.TheVariants as e
use Rattle.ix_meaning.specs.Bodies.{Telling, telling, condition, noted_then, nothing}
use Rattle.ix_meaning.specs.Scope.{Scope}
use Rattle.ix_meaning.specs.Types.{boolean, of}
use Rattle.ix_meaning.specs.Values as values
use Rattle.ix_meaning.specs.Values.{Reading, KindReading, reading, kind_reading, check}
use Rattle.ix_meaning.proofs.Equations as equations
use Rattle.ix_guard.specs.Trees.{expression, named, either}
use Rattle.ix_guard_text.specs.TestParts as parts
use Rattle.ix_guard_text.specs.TestParts.{Parts, guard_of, condition_of}

abbrev pub at : KindReading → Span → Reading
at k p = values.expr_step (record { kind = k; span = p })

abbrev pub name_reading : Ident → Reading
name_reading name = at (values.kind_step (ExprKind-F.Name name)) name.span

abbrev pub null_reading : Span → Reading
null_reading span = at (values.kind_step ExprKind-F.Null) span

abbrev pub zero_reading : Span → Reading
zero_reading span = at (values.kind_step (ExprKind-F.Int (pos 0))) span

abbrev pub length_reading : Span → Ident → Ident → Reading
length_reading span array length = at (values.kind_step (ExprKind-F.Select (name_reading array) length)) span

abbrev pub binary_reading : Span → BinaryOp → Reading → Reading → Reading
binary_reading span op a b = at (values.kind_step (ExprKind-F.Binary op a b)) span

abbrev pub null_test : Parts → Reading
null_test p = binary_reading p.is_null (Compare Eq) (name_reading p.null_array) (null_reading p.null)

abbrev pub negative_test : Parts → Reading
negative_test p = binary_reading p.is_negative (Compare Lt) (name_reading p.negative_index) (zero_reading p.zero)

abbrev pub high_test : Parts → Reading
high_test p = binary_reading p.is_too_high (Compare Ge) (name_reading p.high_index) (length_reading p.selection p.length_array p.length)

abbrev pub first_two : Parts → Reading
first_two p = binary_reading p.first_two OrElse (null_test p) (negative_test p)

abbrev pub condition_reading : Parts → Reading
condition_reading p = binary_reading p.condition OrElse (first_two p) (high_test p)

read_at : (k : ExprKind) (span : Span) (is : KindReading) → kind_reading k ≡ is → reading (expression k span) ≡ at is span
read_at k span is e = equations.expr_is k span ∙ ap (λ (k : KindReading). at k span) e

name_is : (name : Ident) → reading (named name) ≡ name_reading name
name_is name = read_at (e.Name name) name.span _ (equations.name_kind name)

length_is : (span : Span) (array length : Ident) → reading (expression (e.Select (named array) length) span) ≡ length_reading span array length
length_is span array length = read_at (e.Select (named array) length) span _ (equations.select_kind (named array) length)
    ∙ ap (λ (r : Reading). at (values.kind_step (ExprKind-F.Select r length)) span) (name_is array)

binary_is : (span : Span) (op : BinaryOp) (x y : Expr) (a b : Reading) → reading x ≡ a → reading y ≡ b → reading (expression (e.Binary op x y) span) ≡ binary_reading span op a b
binary_is span op x y a b f g = read_at (e.Binary op x y) span _ (equations.binary_kind op x y) ∙ ap₂ (λ (r : Reading) (t : Reading). binary_reading span op r t) f g

condition_is : (p : Parts) → reading (condition_of p) ≡ condition_reading p
condition_is p =
    let null = binary_is p.is_null (Compare Eq) (named p.null_array) (expression e.Null p.null) (name_reading p.null_array) (null_reading p.null) (name_is p.null_array) (read_at e.Null p.null _ equations.null_kind) in
    let negative = binary_is p.is_negative (Compare Lt) (named p.negative_index) (expression (e.Int (pos 0)) p.zero) (name_reading p.negative_index) (zero_reading p.zero) (name_is p.negative_index)
    (read_at (e.Int (pos 0)) p.zero _ (equations.int_kind (pos 0))) in
    let high = binary_is p.is_too_high (Compare Ge) (named p.high_index) (expression (e.Select (named p.length_array) p.length) p.selection) (name_reading p.high_index)
    (length_reading p.selection p.length_array p.length) (name_is p.high_index) (length_is p.selection p.length_array p.length) in
    binary_is p.condition OrElse (either p.first_two (parts.null_test p) (parts.negative_test p)) (parts.high_test p) _ _
    (binary_is p.first_two OrElse (parts.null_test p) (parts.negative_test p) (null_test p) (negative_test p) null negative) high

-- A test declares nothing, and says what its condition does.
abbrev pub test_telling : Parts → Telling
test_telling p = noted_then (λ s. (check (condition_reading p) s (of boolean)).notes) nothing

pub test_is : (p : Parts) → telling (guard_of p) ≡ test_telling p
test_is p =
    equations.stmt_is _ p.whole ∙ equations.if_stmt _ _ p.whole ∙ ap (λ (t : Telling). noted_then (condition (condition_of p)) t) (equations.stmt_is _ p.throw ∙ equations.throw_stmt _ p.throw)
    ∙ ap (λ (r : Reading). noted_then (λ (s : Scope). (check r s (of boolean)).notes) nothing) (condition_is p)
