-- What is in an expression, by its parts.
use Rattle.std.proofs.Common.{◌≡◌, Option, None, Some, Bool, true, false, if◌then◌else◌, List, [], ◌∷◌, ◌++◌, sym, ap, refl, ◌∙◌, append_assoc, append-nil}
use Rattle.ix_num.specs.declared.arith.Arith.{Arith}
use Rattle.ix_tree.specs.declared.expr.BinaryOp.{BinaryOp}
use Rattle.ix_tree.specs.declared.expr.Expr.{Expr, fold-roll-Expr}
use Rattle.ix_tree.specs.declared.expr.ExprKind.{ExprKind, ExprKind-F, fold-ExprKind, fold-roll-ExprKind}
use Rattle.ix_tree.specs.declared.expr.ExprKind.TheVariants as kind
use Rattle.ix_tree.specs.declared.expr.ExprKind.TheVariants.{rolls-Index, rolls-Binary, rolls-Assign}
use Rattle.ix_guard.specs.Accesses.{parts_of, reading, accessing, operands, both, as_target, is_always, own_access, or_inside, Access, Parts, Reading, kind_step, init_step, expr_step}

-- one part behind another
pub joined : {Y : Type 0} (before middle after first second whole : List Y) → middle ≡ before ++ first → after ≡ middle ++ second → whole ≡ first ++ second → after ≡ before ++ whole
joined before middle after first second whole one two is = two ∙ ap (λ l. l ++ second) one ∙ append_assoc before first second ∙ ap (λ l. before ++ l) (sym is)

abbrev kind_reading : ExprKind → Reading
kind_reading = fold-ExprKind Reading Parts Reading kind_step init_step expr_step

of_kind : (expr : Expr) → reading expr ≡ kind_reading expr.kind
of_kind expr = fold-roll-Expr Reading Parts Reading kind_step init_step expr_step (record { kind = expr.kind; span = expr.span })

of_layer : (expr : Expr) (form : ExprKind) → expr.kind ≡ form → reading expr ≡ kind_reading form
of_layer expr form is = of_kind expr ∙ ap kind_reading is

index_is : (expr array index : Expr) → expr.kind ≡ kind.Index array index → parts_of expr ≡ accessing (reading array) (reading index)
index_is expr array index is =
    ap (λ (r : Reading). r.parts) (of_layer expr (kind.Index array index) is ∙ (ap kind_reading (sym (rolls-Index array index)) ∙ fold-roll-ExprKind Reading Parts Reading kind_step init_step expr_step (ExprKind-F.Index array index)))

pub index_assigned : (expr array index one two : Expr) → expr.kind ≡ kind.Index array index → one ≡ array → two ≡ index → (parts_of expr).assigned ≡ (parts_of one).assigned ++ (parts_of two).assigned
index_assigned expr array index one two is here there =
    ap (λ (p : Parts). p.assigned) (index_is expr array index is) ∙ (ap (λ (e : Expr). (parts_of e).assigned ++ (parts_of index).assigned) (sym here) ∙ ap (λ (e : Expr). (parts_of one).assigned ++ (parts_of e).assigned) (sym there))

binary_is : (expr left right : Expr) (operator : BinaryOp) → expr.kind ≡ kind.Binary operator left right → parts_of expr ≡ operands operator (parts_of left) (parts_of right)
binary_is expr left right operator is =
    ap (λ (r : Reading). r.parts)
    (of_layer expr (kind.Binary operator left right) is ∙ (ap kind_reading (sym (rolls-Binary operator left right)) ∙ fold-roll-ExprKind Reading Parts Reading kind_step init_step expr_step (ExprKind-F.Binary operator left right)))

pub binary_assigned : (expr left right one two : Expr) (operator : BinaryOp) → expr.kind ≡ kind.Binary operator left right → one ≡ left → two ≡ right → (parts_of expr).assigned ≡ (parts_of one).assigned ++ (parts_of two).assigned
binary_assigned expr left right one two operator is here there =
    ap (λ (p : Parts). p.assigned) (binary_is expr left right operator is) ∙ (ap (λ (e : Expr). (parts_of e).assigned ++ (parts_of right).assigned) (sym here) ∙ ap (λ (e : Expr). (parts_of one).assigned ++ (parts_of e).assigned) (sym there))

chosen : {Y : Type 0} (answer : Bool) (first second : List Y) → (if answer then first ++ second else first) ≡ first ++ (if answer then second else [])
chosen true first second = refl
chosen false first second = sym (append-nil first)

pub binary_accesses : (expr left right one two : Expr) (operator : BinaryOp) → expr.kind ≡ kind.Binary operator left right → one ≡ left → two ≡ right
    → (parts_of expr).accesses ≡ (parts_of one).accesses ++ (if is_always operator then (parts_of two).accesses else [])
binary_accesses expr left right one two operator is here there =
    ap (λ (p : Parts). p.accesses) (binary_is expr left right operator is)
    ∙ (chosen (is_always operator) (parts_of left).accesses (parts_of right).accesses
    ∙ (ap (λ (e : Expr). (parts_of e).accesses ++ (if is_always operator then (parts_of right).accesses else [])) (sym here) ∙ ap (λ (e : Expr). (parts_of one).accesses ++ (if is_always operator then (parts_of e).accesses else [])) (sym there)))

pub index_accesses : (expr array index one two first second : Expr) → expr.kind ≡ kind.Index array index → one ≡ array → two ≡ index → None ≡ own_access (reading one).name (reading two).name → first ≡ array → second ≡ index
    → (parts_of expr).accesses ≡ (parts_of first).accesses ++ (parts_of second).accesses
index_accesses expr array index one two first second is here there none begins ends =
    let own : own_access (reading array).name (reading index).name ≡ None =
    sym (none ∙ (ap (λ (e : Expr). own_access (reading e).name (reading two).name) here ∙ ap (λ (e : Expr). own_access (reading array).name (reading e).name) there)) in
    ap (λ (p : Parts). p.accesses) (index_is expr array index is)
    ∙ (ap (λ (o : Option Access). or_inside o ((parts_of array).accesses ++ (parts_of index).accesses)) own
    ∙ (ap (λ (e : Expr). (parts_of e).accesses ++ (parts_of index).accesses) (sym begins) ∙ ap (λ (e : Expr). (parts_of first).accesses ++ (parts_of e).accesses) (sym ends)))

assign_is : (expr target value : Expr) (operator : Option Arith) → expr.kind ≡ kind.Assign operator target value → parts_of expr ≡ both (as_target (reading target)) (parts_of value)
assign_is expr target value operator is =
    ap (λ (r : Reading). r.parts)
    (of_layer expr (kind.Assign operator target value) is ∙ (ap kind_reading (sym (rolls-Assign operator target value)) ∙ fold-roll-ExprKind Reading Parts Reading kind_step init_step expr_step (ExprKind-F.Assign operator target value)))

-- a target that is assigned, and then its value
pub assign_parts : (expr target value one two : Expr) (operator : Option Arith) → expr.kind ≡ kind.Assign operator target value → one ≡ target → two ≡ value → parts_of expr ≡ both (as_target (reading one)) (parts_of two)
assign_parts expr target value one two operator is here there =
    assign_is expr target value operator is ∙ (ap (λ (e : Expr). both (as_target (reading e)) (parts_of value)) (sym here) ∙ ap (λ (e : Expr). both (as_target (reading one)) (parts_of e)) (sym there))

-- an access on names
pub index_own : (expr array index one two : Expr) (access : Access) → expr.kind ≡ kind.Index array index → one ≡ array → two ≡ index → Some access ≡ own_access (reading one).name (reading two).name
    → (parts_of expr).accesses ≡ access ∷ []
index_own expr array index one two access is here there own =
    let found : own_access (reading array).name (reading index).name ≡ Some access =
    sym (own ∙ (ap (λ (e : Expr). own_access (reading e).name (reading two).name) here ∙ ap (λ (e : Expr). own_access (reading array).name (reading e).name) there)) in
    ap (λ (p : Parts). p.accesses) (index_is expr array index is) ∙ ap (λ (o : Option Access). or_inside o ((parts_of array).accesses ++ (parts_of index).accesses)) found
