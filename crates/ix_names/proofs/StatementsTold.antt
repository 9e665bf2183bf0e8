-- What a statement tells, from what its parts told. Where a part was reached by a borrow, `got` and `slice` are what was got.
use Rattle.std.proofs.Common.{◌≡◌, ◌++◌, ◌∙◌, List, Option, Some, None, map, ap, sym, subst}
use Rattle.ix_text.specs.declared.span.Span.{Span}
use Rattle.ix_tree.specs.declared.expr.Expr.{Expr}
use Rattle.ix_tree.specs.declared.stmt.Stmt.{Stmt}
use Rattle.ix_tree.specs.declared.stmt.StmtKind.{StmtKind}
use Rattle.ix_tree.specs.declared.stmt.StmtKind.TheVariants as kind
use Rattle.ix_meaning.specs.declared.note.Note.{Note}
use Rattle.ix_meaning.specs.Scope.{Scope}
use Rattle.ix_meaning.specs.Bodies.{Telling, telling, kind_telling, all_told, then_told, noted_then, then_noted, closed, looped, condition, condition_or_none, all_run}
use Rattle.ix_meaning.proofs.Equations.{block_stmt, if_stmt, if_else_stmt, while_stmt, do_stmt, for_stmt}
use Rattle.ix_expression_types.specs.declared.scope.Scopes.{Scopes}
use Rattle.ix_names.specs.Told.{Told}
use Rattle.ix_names.proofs.Told.{told_then, told_before, told_behind}

-- a `for` within its braces
abbrev pub for_parts : List Stmt → Option Expr → List Expr → Stmt → Telling
for_parts first e updates body = then_told (all_told (map telling first)) (noted_then (λ s. condition_or_none e s ++ all_run updates s) (looped (telling body)))

module _ {here : Scopes → Scope} where
  told_as : {t v : Telling} {s u : Scopes} {n m : List Note} → v ≡ t → Told here t s u n m → Told here v s u n m
  told_as {t} {v} {s} {u} {n} {m} is told = subst (λ (x : Telling). Told here x s u n m) (sym is) told

  module _ (k : StmtKind) (p : Span) where
    pub block_told : {s u : Scopes} {n m : List Note} (inner slice : List Stmt) → k ≡ kind.Block inner → slice ≡ inner
        → Told here (closed (all_told (map telling slice))) s u n m → Told here (kind_telling k p) s u n m
    block_told inner slice is sliced told =
        told_as (ap (λ (x : StmtKind). kind_telling x p) is ∙ block_stmt inner p ∙ ap (λ (ss : List Stmt). closed (all_told (map telling ss))) (sym sliced)) told

    pub while_told : {s u : Scopes} {n m o : List Note} (e : Expr) (body got : Stmt) → k ≡ kind.While e body → got ≡ body
        → m ≡ n ++ condition e (here s) → Told here (looped (telling got)) s u m o → Told here (kind_telling k p) s u n o
    while_told e body got is same noted told =
        told_as (ap (λ (x : StmtKind). kind_telling x p) is ∙ while_stmt e body p ∙ ap (λ (b : Stmt). noted_then (condition e) (looped (telling b))) (sym same))
        (told_before (condition e) noted told)

    pub do_told : {s u : Scopes} {n m o : List Note} (body got : Stmt) (e : Expr) → k ≡ kind.Do body e → got ≡ body
        → Told here (looped (telling got)) s u n m → o ≡ m ++ condition e (here u) → Told here (kind_telling k p) s u n o
    do_told body got e is same told noted =
        told_as (ap (λ (x : StmtKind). kind_telling x p) is ∙ do_stmt body e p ∙ ap (λ (b : Stmt). then_noted (looped (telling b)) (condition e)) (sym same))
        (told_behind (condition e) told noted)

    pub for_told : {s u : Scopes} {n m : List Note} (first slice : List Stmt) (e : Option Expr) (updates run : List Expr) (body got : Stmt)
        → k ≡ kind.For first e updates body → slice ≡ first → run ≡ updates → got ≡ body → Told here (closed (for_parts slice e run got)) s u n m → Told here (kind_telling k p) s u n m
    for_told first slice e updates run body got is sliced ran same told =
        told_as
        (ap (λ (x : StmtKind). kind_telling x p) is ∙ for_stmt first e updates body p
        ∙ ap (λ (ss : List Stmt). closed (for_parts ss e updates body)) (sym sliced)
        ∙ ap (λ (es : List Expr). closed (for_parts slice e es body)) (sym ran)
        ∙ ap (λ (b : Stmt). closed (for_parts slice e run b)) (sym same))
        told

    pub if_told : {s u : Scopes} {n m o : List Note} (e : Expr) (then got : Stmt) (other : Option Stmt) → k ≡ kind.If e then other → other ≡ None → got ≡ then
        → m ≡ n ++ condition e (here s) → Told here (telling got) s u m o → Told here (kind_telling k p) s u n o
    if_told e then got other is none same noted told =
        told_as
        (ap (λ (x : StmtKind). kind_telling x p) (is ∙ ap (λ (x : Option Stmt). kind.If e then x) none) ∙ if_stmt e then p ∙ ap (λ (b : Stmt). noted_then (condition e) (telling b)) (sym same))
        (told_before (condition e) noted told)

    pub if_else_told : {s a u : Scopes} {n m o q : List Note} (e : Expr) (then got : Stmt) (other : Option Stmt) (second also : Stmt) → k ≡ kind.If e then other → other ≡ Some second
        → got ≡ then → also ≡ second → m ≡ n ++ condition e (here s) → Told here (telling got) s a m o → Told here (telling also) a u o q → Told here (kind_telling k p) s u n q
    if_else_told e then got other second also is some same alike noted first told =
        told_as
        (ap (λ (x : StmtKind). kind_telling x p) (is ∙ ap (λ (x : Option Stmt). kind.If e then x) some) ∙ if_else_stmt e then second p
        ∙ ap (λ (b : Stmt). noted_then (condition e) (then_told (telling b) (telling second))) (sym same)
        ∙ ap (λ (b : Stmt). noted_then (condition e) (then_told (telling got) (telling b))) (sym alike))
        (told_before (condition e) noted (told_then first told))
