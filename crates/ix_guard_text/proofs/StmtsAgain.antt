-- Statements of tokens at other places.
use Rattle.std.proofs.Common.{◌≡◌, ℕ, Bool, List, [], ◌∷◌, ◌++◌, map, Option, Some, None, refl, sym, ap, ◌∙◌}
use Rattle.ix_text.specs.declared.span.Span.{Span}
use Rattle.ix_lexer.specs.declared.token.Token.{Token}
use Rattle.ix_lexer.specs.declared.fixed.TheConstants.{ELSE, WHILE, SEMICOLON, OPEN_PAREN, CLOSE_PAREN, CLOSE_BRACE}
use Rattle.ix_tree.specs.declared.annot.Ident.{Ident}
use Rattle.ix_tree.specs.declared.decl.LocalDecl.{LocalDecl}
use Rattle.ix_tree.specs.declared.expr.Expr.{Expr}
use Rattle.ix_tree.specs.declared.stmt.Stmt.{Stmt}
use Rattle.ix_tree.specs.declared.stmt.StmtKind.{StmtKind}
use Rattle.ix_tree.specs.declared.stmt.StmtKind.TheVariants as s
use Rattle.ix_tree.proofs.FoldsOfForms as fold
use Rattle.ix_grammar.specs.declared.classes.Stmts.{Stmts}
use Rattle.ix_grammar.specs.declared.declarations.FoundMods.{FoundMods}
use Rattle.ix_grammar.specs.declared.found.Found.{Found}
use Rattle.ix_grammar.specs.declared.found.FoundDecls.{FoundDecls}
use Rattle.ix_grammar.specs.declared.found.FoundStmt.{FoundStmt}
use Rattle.ix_grammar.specs.declared.found.FoundType.{FoundType}
use Rattle.ix_grammar.specs.Patterns.{sign}
use Rattle.ix_grammar.specs.DeclGrammar.{local_words, shared}
use Rattle.ix_grammar.specs.ExprNodes.{with_expr}
use Rattle.ix_grammar.specs.ExprGrammar.{Whole, IsStatementExpr}
use Rattle.ix_grammar.specs.StmtGrammar as g
use Rattle.ix_grammar.specs.StmtGrammar.{maybe_expr, begins_print, run_part, one_run, with_run, one_expr, IsLocal, IsForFirst, IsMaybe, IsUpdate, IsReason, IsStmt, IsBlockStmt, IsStmts}
use Rattle.ix_guard_text.specs.Bare.{nowhere, bare_maybe, bare_expr, bare_decl, stmt_kind_step, stmt_step, bare_stmt}
use Rattle.ix_guard_text.specs.Respanned.{Places, next, behind, respanned}
use Rattle.ix_guard_text.proofs.ListsAgain.{both, same_joined, Stays, separated}
use Rattle.ix_guard_text.proofs.AnnotsAgain.{named_at, type_stays}
use Rattle.ix_guard_text.proofs.ExprsAgain.{SameFound, SameItems, expr_stays, run_stays}
use Rattle.ix_guard_text.proofs.DeclsAgain.{SameDecls, mods_stay, decls_stay}

-- ---- nodes

abbrev pub bare_stmt_kind : StmtKind → StmtKind
bare_stmt_kind = fold.of_stmt_kind stmt_kind_step stmt_step

pub record SameStmt (x y : FoundStmt) : Type 0 where
  pub stmt : bare_stmt x.stmt ≡ bare_stmt y.stmt

abbrev pub SameStmts : Stmts → Stmts → Type 0
SameStmts x y = map bare_stmt x.stmts ≡ map bare_stmt y.stmts

-- two nodes whose kinds are the same
pub node_same : (k l : StmtKind) (p q : Span) → bare_stmt_kind k ≡ bare_stmt_kind l → bare_stmt (record { kind = k; span = p }) ≡ bare_stmt (record { kind = l; span = q })
node_same k l p q is =
    fold.stmt_is stmt_kind_step stmt_step k p ∙ ap (λ (x : StmtKind). let y : Stmt = record { kind = x; span = nowhere } in y) is ∙ sym (fold.stmt_is stmt_kind_step stmt_step l q)

made : {k l : StmtKind} {m n : ℕ} {p q : Span} → bare_stmt_kind k ≡ bare_stmt_kind l → SameStmt (record { stmt = record { kind = k; span = p }; height = m }) (record { stmt = record { kind = l; span = q }; height = n })
made {k} {l} {m} {n} {p} {q} is = record { stmt = node_same k l p q is }

pub block_same : (xs ys : List Stmt) → map bare_stmt xs ≡ map bare_stmt ys → bare_stmt_kind (s.Block xs) ≡ bare_stmt_kind (s.Block ys)
block_same xs ys e = fold.block_kind stmt_kind_step stmt_step xs ∙ ap (λ l. s.Block l) e ∙ sym (fold.block_kind stmt_kind_step stmt_step ys)

pub local_same : (xs ys : List LocalDecl) → map bare_decl xs ≡ map bare_decl ys → bare_stmt_kind (s.Local xs) ≡ bare_stmt_kind (s.Local ys)
local_same xs ys e = fold.local_kind stmt_kind_step stmt_step xs ∙ ap (λ l. s.Local l) e ∙ sym (fold.local_kind stmt_kind_step stmt_step ys)

pub if_same : (f h : Expr) (x y : Stmt) → bare_expr f ≡ bare_expr h → bare_stmt x ≡ bare_stmt y → bare_stmt_kind (s.If f x None) ≡ bare_stmt_kind (s.If h y None)
if_same f h x y d e = fold.if_kind stmt_kind_step stmt_step f x ∙ (rw (d, e) refl) ∙ sym (fold.if_kind stmt_kind_step stmt_step h y)

pub if_else_same : (f h : Expr) (x y u v : Stmt) → bare_expr f ≡ bare_expr h → bare_stmt x ≡ bare_stmt y → bare_stmt u ≡ bare_stmt v → bare_stmt_kind (s.If f x (Some u)) ≡ bare_stmt_kind (s.If h y (Some v))
if_else_same f h x y u v c d e = fold.if_else_kind stmt_kind_step stmt_step f x u ∙ (rw (c, d, e) refl) ∙ sym (fold.if_else_kind stmt_kind_step stmt_step h y v)

pub while_same : (f h : Expr) (x y : Stmt) → bare_expr f ≡ bare_expr h → bare_stmt x ≡ bare_stmt y → bare_stmt_kind (s.While f x) ≡ bare_stmt_kind (s.While h y)
while_same f h x y d e = fold.while_kind stmt_kind_step stmt_step f x ∙ (rw (d, e) refl) ∙ sym (fold.while_kind stmt_kind_step stmt_step h y)

pub do_same : (f h : Expr) (x y : Stmt) → bare_expr f ≡ bare_expr h → bare_stmt x ≡ bare_stmt y → bare_stmt_kind (s.Do x f) ≡ bare_stmt_kind (s.Do y h)
do_same f h x y d e = fold.do_kind stmt_kind_step stmt_step x f ∙ (rw (d, e) refl) ∙ sym (fold.do_kind stmt_kind_step stmt_step y h)

pub for_same : (first others : List Stmt) (cond condition : Option Expr) (update updates : List Expr) (x y : Stmt) → map bare_stmt first ≡ map bare_stmt others → bare_maybe bare_expr cond ≡ bare_maybe bare_expr condition
    → map bare_expr update ≡ map bare_expr updates → bare_stmt x ≡ bare_stmt y → bare_stmt_kind (s.For first cond update x) ≡ bare_stmt_kind (s.For others condition updates y)
for_same first others cond condition update updates x y a b c d = fold.for_kind stmt_kind_step stmt_step first cond update x ∙ (rw (a, b, c, d) refl) ∙ sym (fold.for_kind stmt_kind_step stmt_step others condition updates y)

pub return_same : (x y : Option Expr) → bare_maybe bare_expr x ≡ bare_maybe bare_expr y → bare_stmt_kind (s.Return x) ≡ bare_stmt_kind (s.Return y)
return_same x y e = fold.return_kind stmt_kind_step stmt_step x ∙ ap (λ v. s.Return v) e ∙ sym (fold.return_kind stmt_kind_step stmt_step y)

pub throw_same : (x : Ident) (span : Span) → bare_stmt_kind (s.Throw x) ≡ bare_stmt_kind (s.Throw (record { text = x.text; span = span }))
throw_same x span = fold.throw_kind stmt_kind_step stmt_step x ∙ sym (fold.throw_kind stmt_kind_step stmt_step (record { text = x.text; span = span }))

pub print_same : (f h : Expr) → bare_expr f ≡ bare_expr h → bare_stmt_kind (s.Print f) ≡ bare_stmt_kind (s.Print h)
print_same f h e = fold.print_kind stmt_kind_step stmt_step f ∙ ap (λ v. s.Print v) e ∙ sym (fold.print_kind stmt_kind_step stmt_step h)

pub run_same : (f h : Expr) → bare_expr f ≡ bare_expr h → bare_stmt_kind (s.Run f) ≡ bare_stmt_kind (s.Run h)
run_same f h e = fold.run_kind stmt_kind_step stmt_step f ∙ ap (λ v. s.Run v) e ∙ sym (fold.run_kind stmt_kind_step stmt_step h)

-- ---- parts

record LocalAgain (ts : List Token) (found : FoundDecls) : Type 0 where
  pub mods : FoundMods
  pub ty : FoundType
  pub decls : FoundDecls
  pub is : IsLocal ts mods ty decls
  pub same : SameDecls found decls

local_stays : (ts : List Token) (mods : FoundMods) (ty : FoundType) (found : FoundDecls) → IsLocal ts mods ty found → (at : Places) → LocalAgain (respanned at ts) found
local_stays _ _ _ _ (g.local {first} {second} {third} {mods} {ty} {found} m t d) at =
    let one = mods_stay local_words first mods m at in
    let at2 = behind first at in
    let two = type_stays second ty t at2 in
    let three = decls_stay (shared mods ty) (shared one.found two.found) (record { mods = one.same; ty = two.same }) third found d (behind second at2) in
    rw (both first (second ++ third) at, both second third at2) (record { mods = one.found; ty = two.found; decls = three.found; is = g.local one.is two.is three.is; same = three.same })

first_stays : Stays IsForFirst IsForFirst SameStmts
first_stays _ _ g.no_first at = record { found = _; is = g.no_first; same = refl }
first_stays _ _ (g.locals {ts} {mods} {ty} {found} d) at =
    let inner = local_stays ts mods ty found d at in
    record { found = _; is = g.locals inner.is; same = ap (λ x. x ∷ []) (node_same (s.Local found.decls) (s.Local inner.decls.decls) _ _ (local_same found.decls inner.decls.decls inner.same)) }
first_stays _ _ (g.runs {ts} {found} d) at =
    let part : (x y : Found) → SameFound x y → bare_stmt (run_part x).stmt ≡ bare_stmt (run_part y).stmt = λ x y e. node_same (s.Run x.expr) (s.Run y.expr) x.outer y.outer (run_same x.expr y.expr e.expr) in
    let inner = separated IsStatementExpr IsStatementExpr SameFound run_stays SameStmts with_run (λ a b x y e f. same_joined bare_stmt a.stmts b.stmts (run_part x).stmt (run_part y).stmt e (part x y f)) one_run (λ x y e. ap (λ z. z ∷ []) (part x y e)) ts found d at in
    record { found = inner.found; is = g.runs inner.is; same = inner.same }

abbrev SameMaybe : Option Found → Option Found → Type 0
SameMaybe x y = bare_maybe bare_expr (maybe_expr x) ≡ bare_maybe bare_expr (maybe_expr y)

maybe_stays : Stays IsMaybe IsMaybe SameMaybe
maybe_stays _ _ g.absent at = record { found = _; is = g.absent; same = refl }
maybe_stays _ _ (g.present {ts} {f} d) at = let inner = expr_stays Whole ts f d at in record { found = _; is = g.present inner.is; same = ap (λ x. Some x) inner.same.expr }

updates_stay : Stays IsUpdate IsUpdate SameItems
updates_stay _ _ g.no_update at = record { found = _; is = g.no_update; same = refl }
updates_stay _ _ (g.updates {ts} {found} d) at =
    let inner = separated IsStatementExpr IsStatementExpr SameFound run_stays SameItems with_expr (λ a b x y e f. same_joined bare_expr a.items b.items x.expr y.expr e f.expr) one_expr (λ x y e. ap (λ z. z ∷ []) e.expr) ts found d at in
    record { found = inner.found; is = g.updates inner.is; same = inner.same }

reason_stays : (ts : List Token) → IsReason ts → (at : Places) → IsReason (respanned at ts)
reason_stays _ g.no_reason at = g.no_reason
reason_stays _ (g.reason text span) at = g.reason text (at 0)

print_again : (ts : List Token) (at : Places) → begins_print (respanned at ts) ≡ begins_print ts
print_again [] at = refl
print_again (t0 ∷ []) at = refl
print_again (t0 ∷ t1 ∷ []) at = refl
print_again (t0 ∷ t1 ∷ t2 ∷ []) at = refl
print_again (t0 ∷ t1 ∷ t2 ∷ t3 ∷ []) at = refl
print_again (t0 ∷ t1 ∷ t2 ∷ t3 ∷ t4 ∷ []) at = refl
print_again (t0 ∷ t1 ∷ t2 ∷ t3 ∷ t4 ∷ t5 ∷ ts) at = refl

-- ---- the grammar

mutual
  pub stmt_stays : (ends : Bool) → Stays (IsStmt ends) (IsStmt ends) SameStmt
  stmt_stays _ _ _ (g.block left right {ts} {found} d) at =
      let inner = stmts_stay ts found d (next at) in
      rw (both ts (sign CLOSE_BRACE right ∷ []) (next at)) (record { found = _; is = g.block (at 0) (behind ts (next at) 0) inner.is; same = made (block_same found.stmts inner.found.stmts inner.same) })
  stmt_stays _ _ _ (g.empty end) at = record { found = _; is = g.empty (at 0); same = made refl }
  stmt_stays _ _ _ (g.if_then begin left right {ends} {ts} {us} {f} {found} d x) at =
      let at1 = next (next at) in
      let one = expr_stays Whole ts f d at1 in
      let at2 = behind ts at1 in
      let two = stmt_stays ends us found x (next at2) in
      rw (both ts (sign CLOSE_PAREN right ∷ us) at1)
      (record { found = _; is = g.if_then (at 0) (next at 0) (at2 0) one.is two.is; same = made (if_same f.expr one.found.expr found.stmt two.found.stmt one.same.expr two.same.stmt) })
  stmt_stays _ _ _ (g.if_else begin left right middle {ends} {ts} {us} {vs} {f} {found} {other} d x y) at =
      let at1 = next (next at) in
      let one = expr_stays Whole ts f d at1 in
      let at2 = behind ts at1 in
      let two = stmt_stays _ us found x (next at2) in
      let at3 = behind us (next at2) in
      let three = stmt_stays ends vs other y (next at3) in
      rw (both ts (sign CLOSE_PAREN right ∷ (us ++ sign ELSE middle ∷ vs)) at1, both us (sign ELSE middle ∷ vs) (next at2))
      (record {
        found = _;
        is = g.if_else (at 0) (next at 0) (at2 0) (at3 0) one.is two.is three.is;
        same = made (if_else_same f.expr one.found.expr found.stmt two.found.stmt other.stmt three.found.stmt one.same.expr two.same.stmt three.same.stmt);
      })
  stmt_stays _ _ _ (g.while_do begin left right {ends} {ts} {us} {f} {found} d x) at =
      let at1 = next (next at) in
      let one = expr_stays Whole ts f d at1 in
      let at2 = behind ts at1 in
      let two = stmt_stays ends us found x (next at2) in
      rw (both ts (sign CLOSE_PAREN right ∷ us) at1)
      (record { found = _; is = g.while_do (at 0) (next at 0) (at2 0) one.is two.is; same = made (while_same f.expr one.found.expr found.stmt two.found.stmt one.same.expr two.same.stmt) })
  stmt_stays _ _ _ (g.do_while begin middle left right end {ends} {ts} {us} {f} {found} x d) at =
      let at1 = next at in
      let one = stmt_stays ends us found x at1 in
      let at2 = behind us at1 in
      let at3 = next (next at2) in
      let two = expr_stays Whole ts f d at3 in
      let at4 = behind ts at3 in
      rw (both us (sign WHILE middle ∷ sign OPEN_PAREN left ∷ (ts ++ sign CLOSE_PAREN right ∷ sign SEMICOLON end ∷ [])) at1, both ts (sign CLOSE_PAREN right ∷ sign SEMICOLON end ∷ []) at3)
      (record { found = _; is = g.do_while (at 0) (at2 0) (next at2 0) (at4 0) (next at4 0) one.is two.is; same = made (do_same f.expr two.found.expr found.stmt one.found.stmt two.same.expr one.same.stmt) })
  stmt_stays _ _ _ (g.for_do begin left first_end cond_end right {ends} {ts} {us} {vs} {ws} {first} {cond} {update} {found} d c u x) at =
      let at1 = next (next at) in
      let one = first_stays ts first d at1 in
      let at2 = behind ts at1 in
      let two = maybe_stays us cond c (next at2) in
      let at3 = behind us (next at2) in
      let three = updates_stay vs update u (next at3) in
      let at4 = behind vs (next at3) in
      let four = stmt_stays ends ws found x (next at4) in
      let third = vs ++ sign CLOSE_PAREN right ∷ ws in
      rw (both ts (sign SEMICOLON first_end ∷ (us ++ sign SEMICOLON cond_end ∷ third)) at1, both us (sign SEMICOLON cond_end ∷ third) (next at2), both vs (sign CLOSE_PAREN right ∷ ws) (next at3))
      (record {
        found = _;
        is = g.for_do (at 0) (next at 0) (at2 0) (at3 0) (at4 0) one.is two.is three.is four.is;
        same = made (for_same first.stmts one.found.stmts (maybe_expr cond) (maybe_expr two.found) update.items three.found.items found.stmt four.found.stmt one.same two.same three.same four.same.stmt);
      })
  stmt_stays _ _ _ (g.breaks begin end) at = record { found = _; is = g.breaks (at 0) (next at 0); same = made refl }
  stmt_stays _ _ _ (g.continues begin end) at = record { found = _; is = g.continues (at 0) (next at 0); same = made refl }
  stmt_stays _ _ _ (g.returns begin end {ts} {value} d) at =
      let inner = maybe_stays ts value d (next at) in
      rw (both ts (sign SEMICOLON end ∷ []) (next at)) (record { found = _; is = g.returns (at 0) (behind ts (next at) 0) inner.is; same = made (return_same (maybe_expr value) (maybe_expr inner.found) inner.same) })
  stmt_stays _ _ _ (g.throws begin middle x left right end {ts} d) at =
      let at1 = next (next at) in
      let at2 = next (next at1) in
      let at3 = behind ts at2 in
      rw (both ts (sign CLOSE_PAREN right ∷ sign SEMICOLON end ∷ []) at2)
      (record { found = _; is = g.throws (at 0) (next at 0) (named_at at1 x) (next at1 0) (at3 0) (next at3 0) (reason_stays ts d at2); same = made (throw_same x (at1 0)) })
  stmt_stays _ _ _ (g.print system dot out second println left right end {ts} {f} d) at =
      let at1 = next (next (next at)) in
      let at2 = next (next (next at1)) in
      let inner = expr_stays Whole ts f d at2 in
      let at3 = behind ts at2 in
      rw (both ts (sign CLOSE_PAREN right ∷ sign SEMICOLON end ∷ []) at2)
      (record { found = _; is = g.print (at 0) (next at 0) (next (next at) 0) (at1 0) (next at1 0) (next (next at1) 0) (at3 0) (next at3 0) inner.is; same = made (print_same f.expr inner.found.expr inner.same.expr) })
  stmt_stays _ _ _ (g.runs end {ts} {f} d other) at =
      let inner = run_stays ts f d at in
      rw (both ts (sign SEMICOLON end ∷ []) at)
      (record { found = _; is = g.runs (behind ts at 0) inner.is (print_again ts at ∙ other); same = made (run_same f.expr inner.found.expr inner.same.expr) })

  pub block_stmt_stays : Stays IsBlockStmt IsBlockStmt SameStmt
  block_stmt_stays _ _ (g.locals end {ts} {mods} {ty} {found} d) at =
      let inner = local_stays ts mods ty found d at in
      rw (both ts (sign SEMICOLON end ∷ []) at) (record { found = _; is = g.locals (behind ts at 0) inner.is; same = made (local_same found.decls inner.decls.decls inner.same) })
  block_stmt_stays _ _ (g.stmt {ends} {ts} {found} d) at = let inner = stmt_stays ends ts found d at in record { found = inner.found; is = g.stmt inner.is; same = inner.same }

  pub stmts_stay : Stays IsStmts IsStmts SameStmts
  stmts_stay _ _ g.none at = record { found = _; is = g.none; same = refl }
  stmts_stay _ _ (g.one_more {ts} {us} {found} {last} d x) at =
      let one = stmts_stay ts found d at in
      let two = block_stmt_stays us last x (behind ts at) in
      rw (both ts us at) (record { found = _; is = g.one_more one.is two.is; same = same_joined bare_stmt found.stmts one.found.stmts last.stmt two.found.stmt one.same two.same.stmt })
