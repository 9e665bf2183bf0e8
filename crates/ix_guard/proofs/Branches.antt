-- What is inserted for a statement, by its parts.
use Rattle.std.proofs.Common.{◌≡◌, ℕ, Bool, Option, None, Some, List, ◌++◌, sym, ap, ◌∙◌}
use Rattle.std.specs.Prelude.{option_map}
use Rattle.ix_text.specs.declared.span.Span.{Span}
use Rattle.ix_tree.specs.declared.expr.Expr.{Expr}
use Rattle.ix_tree.specs.declared.stmt.Stmt.{Stmt, fold-roll-Stmt}
use Rattle.ix_tree.specs.declared.stmt.StmtKind.{StmtKind, StmtKind-F, fold-StmtKind, fold-roll-StmtKind}
use Rattle.ix_tree.specs.declared.stmt.StmtKind.TheVariants as kind
use Rattle.ix_tree.specs.declared.stmt.StmtKind.TheVariants.{rolls-If}
use Rattle.ix_guard.specs.Guards.{Inserting, inserting, kind_step, stmt_step, opening, closing, alone, alone_maybe, choosing, around}
use Rattle.ix_guard.specs.Tests.{Site, expression_tests}
use Rattle.ix_guard.specs.declared.insertion.Insertion.{Insertion}

abbrev kind_inserting : Site → StmtKind → Span → Inserting
kind_inserting site = fold-StmtKind (Span → Inserting) Inserting (kind_step site) stmt_step

of_kind : (site : Site) (stmt : Stmt) → inserting site stmt ≡ kind_inserting site stmt.kind stmt.span
of_kind site stmt = fold-roll-Stmt (Span → Inserting) Inserting (kind_step site) stmt_step (record { kind = stmt.kind; span = stmt.span })

of_if : (site : Site) (stmt : Stmt) (listed : Bool) (condition : Expr) (first : Stmt) (second : Option Stmt) → stmt.kind ≡ kind.If condition first second
    → inserting site stmt listed ≡ choosing stmt.span (expression_tests site condition) (alone (inserting site first)) (alone_maybe (option_map (inserting site) second))
of_if site stmt listed condition first None is =
    ap (λ (i : Inserting). i listed) (of_kind site stmt ∙ ap (λ (k : StmtKind). kind_inserting site k stmt.span) is
    ∙ ap (λ (k : Span → Inserting). k stmt.span) (ap (kind_inserting site) (sym (rolls-If condition first None)) ∙ fold-roll-StmtKind (Span → Inserting) Inserting (kind_step site) stmt_step (StmtKind-F.If condition first None)))
of_if site stmt listed condition first (Some second) is =
    ap (λ (i : Inserting). i listed) (of_kind site stmt ∙ ap (λ (k : StmtKind). kind_inserting site k stmt.span) is
    ∙ ap (λ (k : Span → Inserting). k stmt.span) (ap (kind_inserting site) (sym (rolls-If condition first (Some second))) ∙ fold-roll-StmtKind (Span → Inserting) Inserting (kind_step site) stmt_step (StmtKind-F.If condition first (Some second))))

-- an `if`, whose tests stand at its beginning and at its end
pub if_parts : (site : Site) (stmt : Stmt) (listed : Bool) (condition : Expr) (first one : Stmt) (second : Option Stmt) (begin end : List ℕ) → stmt.kind ≡ kind.If condition first second
    → begin ≡ expression_tests site condition → end ≡ expression_tests site condition → one ≡ first
    → inserting site stmt listed ≡ (opening stmt.span begin ++ alone (inserting site one)) ++ (alone_maybe (option_map (inserting site) second) ++ closing stmt.span end)
if_parts site stmt listed condition first one second begin end is begins ends here =
    let last : List Insertion = alone_maybe (option_map (inserting site) second) in
    of_if site stmt listed condition first second is
    ∙ (ap (λ (s : Stmt). (opening stmt.span (expression_tests site condition) ++ alone (inserting site s)) ++ (last ++ closing stmt.span (expression_tests site condition))) (sym here)
    ∙ (ap (λ (t : List ℕ). (opening stmt.span t ++ alone (inserting site one)) ++ (last ++ closing stmt.span (expression_tests site condition))) (sym begins)
    ∙ ap (λ (t : List ℕ). (opening stmt.span begin ++ alone (inserting site one)) ++ (last ++ closing stmt.span t)) (sym ends)))

-- tests around a statement
pub around_parts : (span : Span) (tests begin end : List ℕ) → begin ≡ tests → end ≡ tests → around span tests ≡ opening span begin ++ closing span end
around_parts span tests begin end begins ends = ap (λ t. opening span t ++ closing span tests) (sym begins) ∙ ap (λ t. opening span begin ++ closing span t) (sym ends)
