-- Statements stand where their tokens are, with their parts in them.
use Rattle.std.proofs.Common.{◌≡◌, ◌≤◌, ◌<◌, ℕ, Bool, List, [], ◌∷◌, ◌++◌, map, Option, Some, None, refl, sym, ap, subst, ◌∙◌, arith}
use Rattle.ix_text.specs.declared.span.Span.{Span}
use Rattle.ix_lexer.specs.declared.token.Token.{Token}
use Rattle.ix_lexer.specs.declared.fixed.TheConstants.{ELSE, WHILE, SEMICOLON, OPEN_PAREN, CLOSE_PAREN, CLOSE_BRACE}
use Rattle.ix_lexer.specs.Spans.{InOrder}
use Rattle.ix_tree.specs.declared.stmt.Stmt.{Stmt}
use Rattle.ix_tree.specs.declared.stmt.StmtKind.{StmtKind}
use Rattle.ix_tree.specs.declared.stmt.StmtKind.TheVariants as s
use Rattle.ix_tree.specs.Placed.{Layout, LaidOut, row, piece, maybe, name_piece, expr_piece, locals_pieces, stmt_piece}
use Rattle.ix_tree.proofs.Layouts.{Lies, Laid, laid_more, laid_rows, laid_first, laid_one, laid_two, laid_node, laid_name}
use Rattle.ix_tree.proofs.StatementLayouts.{stmt_kind_row, stmt_is, block_kind, empty_kind, local_kind, if_kind, if_else_kind, while_kind, do_kind, for_kind, break_kind, continue_kind, return_kind, throw_kind, print_kind, run_kind}
use Rattle.ix_grammar.specs.declared.classes.Stmts.{Stmts}
use Rattle.ix_grammar.specs.declared.declarations.FoundMods.{FoundMods}
use Rattle.ix_grammar.specs.declared.found.Found.{Found}
use Rattle.ix_grammar.specs.declared.found.FoundDecls.{FoundDecls}
use Rattle.ix_grammar.specs.declared.found.FoundStmt.{FoundStmt}
use Rattle.ix_grammar.specs.declared.found.FoundType.{FoundType}
use Rattle.ix_grammar.specs.declared.found.Several.{Several}
use Rattle.ix_grammar.specs.Nodes.{across}
use Rattle.ix_grammar.specs.Patterns.{sign}
use Rattle.ix_grammar.specs.DeclGrammar.{local_words}
use Rattle.ix_grammar.specs.ExprNodes.{with_expr}
use Rattle.ix_grammar.specs.ExprGrammar.{Whole, IsExpr, IsStatementExpr}
use Rattle.ix_grammar.specs.StmtGrammar as g
use Rattle.ix_grammar.specs.StmtGrammar.{maybe_expr, run_part, one_run, with_run, one_expr, local_stmt, IsLocal, IsForFirst, IsMaybe, IsUpdate, IsStmt, IsBlockStmt, IsStmts}
use Rattle.ix_lexer.proofs.SplitInOrder.{order_both}
use Rattle.ix_grammar_rules.proofs.StmtPlaces.{order_at}
use Rattle.ix_grammar_rules.proofs.ListsLaid.{laid_joined, separated_laid}
use Rattle.ix_grammar_rules.proofs.ExprLaid.{expr_lies, whole_in, expr_laid}
use Rattle.ix_grammar_rules.proofs.DeclLaid.{group_laid}

-- ---- nodes

stated : (start lo hi : ℕ) (kind : StmtKind) (span : Span) (parts : List Layout) → stmt_kind_row kind ≡ parts → Lies lo hi span → Laid span.from span.from span.to parts → LaidOut start lo hi (stmt_piece (record { kind = kind; span = span }))
stated start lo hi kind span parts is lies laid = subst (λ y. LaidOut start lo hi y) (sym (stmt_is kind span ∙ ap (λ y. piece span y) is)) (laid_node start lo hi span parts lies laid)

bare : (start lo hi : ℕ) (kind : StmtKind) (span : Span) → stmt_kind_row kind ≡ [] → Lies lo hi span → LaidOut start lo hi (stmt_piece (record { kind = kind; span = span }))
bare start lo hi kind span is lies = stated start lo hi kind span [] is lies (omega (arith, lies.1))

-- where a statement stands, and that it ends where its span does
pub stmt_lies : (start lo hi : ℕ) (x : Stmt) → LaidOut start lo hi (stmt_piece x) → Lies lo hi x.span
stmt_lies start lo hi x laid = let (a, b, c, d) = subst (λ y. LaidOut start lo hi y) (stmt_is x.kind x.span) laid in (a, b, d)

stmt_exact : (start lo hi : ℕ) (x : Stmt) → LaidOut start lo hi (stmt_piece x) → LaidOut start lo x.span.to (stmt_piece x)
stmt_exact start lo hi x laid =
    let (a, b, c, d) = subst (λ y. LaidOut start lo hi y) (stmt_is x.kind x.span) laid in
    subst (λ y. LaidOut start lo x.span.to y) (sym (stmt_is x.kind x.span)) (laid_node start lo x.span.to x.span (stmt_kind_row x.kind) (a, b, omega arith) c)

-- an expression where its tokens are
expr_in : (start lo hi : ℕ) (ts : List Token) (f : Found) → IsExpr Whole ts f → InOrder lo hi ts → LaidOut start lo hi (expr_piece f.expr)
expr_in start lo hi ts f d o = let l = expr_lies lo hi Whole ts f d o in whole_in start lo hi f (expr_laid lo hi Whole ts f d o) l.0 l.2

-- ---- the parts of statements in the grammar

local_laid : (start lo mid hi : ℕ) (ts : List Token) (mods : FoundMods) (ty : FoundType) (found : FoundDecls) (end : Span) → IsLocal ts mods ty found → InOrder lo mid ts → (found.end.to ≤ mid → found.end.to ≤ end.to) → end.to ≤ hi
    → LaidOut start lo hi (stmt_piece (local_stmt mods ty found end).stmt)
local_laid start lo mid hi _ _ _ _ end (g.local {first} {second} {third} {mods} {ty} {found} m t d) o last le =
    let span = (local_stmt mods ty found end).stmt.span in
    let group = group_laid local_words lo mid span.from first second third mods ty found m t d o (omega arith) in
    stated start lo hi (s.Local found.decls) span (locals_pieces found.decls) (local_kind found.decls) (group.behind, omega (arith, group.before, last group.end.2), le)
    (laid_more span.from span.from found.end.to span.from span.from span.to (row (locals_pieces found.decls)) (omega arith) (omega arith) (last group.end.2) group.laid)

run_laid : (start lo hi : ℕ) (ts : List Token) (f : Found) → IsStatementExpr ts f → InOrder lo hi ts → LaidOut start lo hi (stmt_piece (run_part f).stmt)
run_laid start lo hi ts f d o =
    let l = expr_lies lo hi Whole ts f d.is o in
    stated start lo hi (s.Run f.expr) f.outer (expr_piece f.expr ∷ []) (run_kind f.expr) l (laid_one f.outer.from f.outer.from f.outer.to (expr_piece f.expr) (expr_laid lo hi Whole ts f d.is o f.outer.from))

first_laid : (start lo hi : ℕ) (ts : List Token) (first : Stmts) → IsForFirst ts first → InOrder lo hi ts → Laid start lo hi (map stmt_piece first.stmts)
first_laid start lo hi _ _ g.no_first o = o
first_laid start lo hi _ _ (g.locals {ts} {mods} {ty} {found} d) o =
    laid_one start lo hi (stmt_piece (local_stmt mods ty found found.end).stmt) (local_laid start lo hi hi ts mods ty found found.end d o (λ le. omega arith) (ends_in ts mods ty found d o))
  where
    ends_in : (ts : List Token) (mods : FoundMods) (ty : FoundType) (found : FoundDecls) → IsLocal ts mods ty found → InOrder lo hi ts → found.end.to ≤ hi
    ends_in _ _ _ _ (g.local {first} {second} {third} {mods} {ty} {found} m t d) o = (group_laid local_words lo hi 0 first second third mods ty found m t d o (omega arith)).end.2
first_laid start lo hi _ _ (g.runs {ts} {found} d) o = separated_laid IsStatementExpr (λ f. (run_part f).stmt) stmt_piece run_laid (λ x. x.stmts) with_run (λ x f. refl) one_run (λ f. refl) start lo hi ts found d o

maybe_laid : (start lo hi : ℕ) (ts : List Token) (value : Option Found) → IsMaybe ts value → InOrder lo hi ts → Laid start lo hi (maybe expr_piece (maybe_expr value))
maybe_laid start lo hi _ _ g.absent o = o
maybe_laid start lo hi _ _ (g.present {ts} {f} d) o = laid_one start lo hi (expr_piece f.expr) (expr_in start lo hi ts f d o)

updates_laid : (start lo hi : ℕ) (ts : List Token) (update : Several) → IsUpdate ts update → InOrder lo hi ts → Laid start lo hi (map expr_piece update.items)
updates_laid start lo hi _ _ g.no_update o = o
updates_laid start lo hi _ _ (g.updates {ts} {found} d) o =
    separated_laid IsStatementExpr (λ f. f.expr) expr_piece (λ start lo hi ts f d o. expr_in start lo hi ts f d.is o) (λ x. x.items) with_expr (λ x f. refl) one_expr (λ f. refl) start lo hi ts found d o

-- ---- the grammar

-- a condition in parentheses, and a statement
headed : (start lo hi low mid high : ℕ) (begin : Span) (f : Found) (found : FoundStmt) (kind : StmtKind) → stmt_kind_row kind ≡ expr_piece f.expr ∷ stmt_piece found.stmt ∷ [] → lo ≤ begin.from → begin.from < begin.to → begin.to ≤ low → low ≤ mid → mid ≤ high
    → LaidOut begin.from low mid (expr_piece f.expr) → ((start : ℕ) → LaidOut start high hi (stmt_piece found.stmt)) → LaidOut start lo hi (stmt_piece (record { kind = kind; span = across begin found.stmt.span }))
headed start lo hi low mid high begin f found kind is a b c d e x y =
    let z = y begin.from in
    let l = stmt_lies begin.from high hi found.stmt z in
    let span = across begin found.stmt.span in
    stated start lo hi kind span (expr_piece f.expr ∷ stmt_piece found.stmt ∷ []) is (a, omega (arith, b, c, d, e, l.0, l.1), l.2)
    (laid_two begin.from begin.from mid high span.to (expr_piece f.expr) (stmt_piece found.stmt) (laid_more begin.from low mid begin.from begin.from mid (expr_piece f.expr) (omega arith) (omega (arith, b, c)) (omega arith) x)
    (stmt_exact begin.from high hi found.stmt z) e)

mutual
  pub stmt_laid : (start lo hi : ℕ) (ends : Bool) (ts : List Token) (found : FoundStmt) → IsStmt ends ts found → InOrder lo hi ts → LaidOut start lo hi (stmt_piece found.stmt)
  stmt_laid start lo hi _ _ _ (g.block left right {ts} {found} d) (p, q, o) =
      let (mid, a, b, r, w) = order_both left.to hi ts (sign CLOSE_BRACE right ∷ []) o in
      let span = across left right in
      stated start lo hi (s.Block found.stmts) span (map stmt_piece found.stmts) (block_kind found.stmts) (p, omega (arith, q, a, w.0, w.1), w.2)
      (laid_more left.from left.to mid left.from left.from right.to (row (map stmt_piece found.stmts)) (omega arith) (omega (arith, q)) (omega (arith, w.0, w.1)) (stmts_laid left.from left.to mid ts found d r))
  stmt_laid start lo hi _ _ _ (g.empty end) o = bare start lo hi s.Empty end empty_kind o
  stmt_laid start lo hi _ _ _ (g.if_then begin left right {ends} {ts} {us} {f} {found} d x) (p, q, (r, w, o)) =
      let (mid, a, b, c, o1, o2) = order_at left.to hi ts (sign CLOSE_PAREN right) us o in
      headed start lo hi left.to mid right.to begin f found (s.If f.expr found.stmt None) (if_kind f.expr found.stmt) p q (omega (arith, r, w)) a b (expr_in begin.from left.to mid ts f d o1) (λ t. stmt_laid t right.to hi ends us found x o2)
  stmt_laid start lo hi _ _ _ (g.if_else begin left right middle {ends} {ts} {us} {vs} {f} {found} {other} d x y) (p, q, (r, w, o)) =
      let later = us ++ sign ELSE middle ∷ vs in
      let (mid, a, b, c, o1, o2) = order_at left.to hi ts (sign CLOSE_PAREN right) later o in
      let (far, a2, b2, c2, o3, o4) = order_at right.to hi us (sign ELSE middle) vs o2 in
      let z = stmt_laid begin.from middle.to hi ends vs other y o4 in
      let l = stmt_lies begin.from middle.to hi other.stmt z in
      let span = across begin other.stmt.span in
      stated start lo hi (s.If f.expr found.stmt (Some other.stmt)) span (expr_piece f.expr ∷ stmt_piece found.stmt ∷ stmt_piece other.stmt ∷ []) (if_else_kind f.expr found.stmt other.stmt)
      (p, omega (arith, q, r, w, a, b, a2, b2, l.0, l.1), l.2)
      (laid_first begin.from begin.from mid right.to span.to (expr_piece f.expr) (stmt_piece found.stmt ∷ stmt_piece other.stmt ∷ [])
      (laid_more begin.from left.to mid begin.from begin.from mid (expr_piece f.expr) (omega arith) (omega (arith, q, r, w)) (omega arith) (expr_in begin.from left.to mid ts f d o1))
      (laid_two begin.from right.to far middle.to span.to (stmt_piece found.stmt) (stmt_piece other.stmt) (stmt_laid begin.from right.to far _ us found x o3) (stmt_exact begin.from middle.to hi other.stmt z) b2) b)
  stmt_laid start lo hi _ _ _ (g.while_do begin left right {ends} {ts} {us} {f} {found} d x) (p, q, (r, w, o)) =
      let (mid, a, b, c, o1, o2) = order_at left.to hi ts (sign CLOSE_PAREN right) us o in
      headed start lo hi left.to mid right.to begin f found (s.While f.expr found.stmt) (while_kind f.expr found.stmt) p q (omega (arith, r, w)) a b (expr_in begin.from left.to mid ts f d o1) (λ t. stmt_laid t right.to hi ends us found x o2)
  stmt_laid start lo hi _ _ _ (g.do_while begin middle left right end {ends} {ts} {us} {f} {found} x d) (p, q, o) =
      let last = ts ++ sign CLOSE_PAREN right ∷ sign SEMICOLON end ∷ [] in
      let (mid, a, b, c, o1, o2) = order_at begin.to hi us (sign WHILE middle) (sign OPEN_PAREN left ∷ last) o in
      let (far, a2, b2, c2, o3, o4) = order_at left.to hi ts (sign CLOSE_PAREN right) (sign SEMICOLON end ∷ []) o2.2 in
      let span = across begin end in
      stated start lo hi (s.Do found.stmt f.expr) span (stmt_piece found.stmt ∷ expr_piece f.expr ∷ []) (do_kind found.stmt f.expr) (p, omega (arith, q, a, b, o2.0, o2.1, a2, b2, o4.0, o4.1), o4.2)
      (laid_two begin.from begin.from mid left.to end.to (stmt_piece found.stmt) (expr_piece f.expr)
      (laid_more begin.from begin.to mid begin.from begin.from mid (stmt_piece found.stmt) (omega arith) (omega (arith, q)) (omega arith) (stmt_laid begin.from begin.to mid ends us found x o1))
      (laid_more begin.from left.to far begin.from left.to end.to (expr_piece f.expr) (omega arith) (omega arith) (omega (arith, b2, o4.0, o4.1)) (expr_in begin.from left.to far ts f d o3)) (omega (arith, b, o2.0, o2.1)))
  stmt_laid start lo hi _ _ _ (g.for_do begin left first_end cond_end right {ends} {ts} {us} {vs} {ws} {first} {cond} {update} {found} d c u x) (p, q, (r, w, o)) =
      let third = vs ++ sign CLOSE_PAREN right ∷ ws in
      let second = us ++ sign SEMICOLON cond_end ∷ third in
      let (m1, a1, b1, c1, o1, p1) = order_at left.to hi ts (sign SEMICOLON first_end) second o in
      let (m2, a2, b2, c2, o2, p2) = order_at first_end.to hi us (sign SEMICOLON cond_end) third p1 in
      let (m3, a3, b3, c3, o3, p3) = order_at cond_end.to hi vs (sign CLOSE_PAREN right) ws p2 in
      let z = stmt_laid begin.from right.to hi ends ws found x p3 in
      let l = stmt_lies begin.from right.to hi found.stmt z in
      let span = across begin found.stmt.span in
      let condition = maybe expr_piece (maybe_expr cond) in
      let body = stmt_piece found.stmt ∷ [] in
      stated start lo hi (s.For first.stmts (maybe_expr cond) update.items found.stmt) span (map stmt_piece first.stmts ++ (condition ++ (map expr_piece update.items ++ body))) (for_kind first.stmts (maybe_expr cond) update.items found.stmt)
      (p, omega (arith, q, r, w, a1, b1, a2, b2, a3, b3, l.0, l.1), l.2)
      (laid_rows begin.from begin.from m1 first_end.to span.to (map stmt_piece first.stmts) (condition ++ (map expr_piece update.items ++ body))
      (laid_more begin.from left.to m1 begin.from begin.from m1 (row (map stmt_piece first.stmts)) (omega arith) (omega (arith, q, r, w)) (omega arith) (first_laid begin.from left.to m1 ts first d o1))
      (laid_rows begin.from first_end.to m2 cond_end.to span.to condition (map expr_piece update.items ++ body) (maybe_laid begin.from first_end.to m2 us cond c o2)
      (laid_rows begin.from cond_end.to m3 right.to span.to (map expr_piece update.items) body (updates_laid begin.from cond_end.to m3 vs update u o3)
      (laid_one begin.from right.to span.to (stmt_piece found.stmt) (stmt_exact begin.from right.to hi found.stmt z)) b3) b2) b1)
  stmt_laid start lo hi _ _ _ (g.breaks begin end) (a, b, (c, d, e)) = bare start lo hi s.Break (across begin end) break_kind (a, omega (arith, b, c, d), e)
  stmt_laid start lo hi _ _ _ (g.continues begin end) (a, b, (c, d, e)) = bare start lo hi s.Continue (across begin end) continue_kind (a, omega (arith, b, c, d), e)
  stmt_laid start lo hi _ _ _ (g.returns begin end {ts} {value} d) (p, q, o) =
      let (mid, a, b, o1, o2) = order_both begin.to hi ts (sign SEMICOLON end ∷ []) o in
      stated start lo hi (s.Return (maybe_expr value)) (across begin end) (maybe expr_piece (maybe_expr value)) (return_kind (maybe_expr value)) (p, omega (arith, q, a, o2.0, o2.1), o2.2)
      (laid_more begin.from begin.to mid begin.from begin.from end.to (row (maybe expr_piece (maybe_expr value))) (omega arith) (omega (arith, q)) (omega (arith, o2.0, o2.1)) (maybe_laid begin.from begin.to mid ts value d o1))
  stmt_laid start lo hi _ _ _ (g.throws begin middle x left right end {ts} d) (p, q, (r, w, (a, b, (c, e, o)))) =
      let (mid, f, h, o1, o2) = order_both left.to hi ts (sign CLOSE_PAREN right ∷ sign SEMICOLON end ∷ []) o in
      stated start lo hi (s.Throw x) (across begin end) (name_piece x ∷ []) (throw_kind x) (p, omega (arith, q, r, w, a, b, c, e, f, o2.0, o2.1, o2.2.0, o2.2.1), o2.2.2)
      (laid_one begin.from begin.from end.to (name_piece x) (laid_name begin.from begin.from end.to x (omega (arith, q, r, w, a), b, omega (arith, c, e, f, o2.0, o2.1, o2.2.0, o2.2.1))))
  stmt_laid start lo hi _ _ _ (g.print system dot out second println left right end {ts} {f} d) (p1, q1, (p2, q2, (p3, q3, (p4, q4, (p5, q5, (p6, q6, o)))))) =
      let (mid, a, b, o1, o2) = order_both left.to hi ts (sign CLOSE_PAREN right ∷ sign SEMICOLON end ∷ []) o in
      stated start lo hi (s.Print f.expr) (across system end) (expr_piece f.expr ∷ []) (print_kind f.expr) (p1, omega (arith, q1, p2, q2, p3, q3, p4, q4, p5, q5, p6, q6, a, o2.0, o2.1, o2.2.0, o2.2.1), o2.2.2)
      (laid_one system.from system.from end.to (expr_piece f.expr)
      (laid_more system.from left.to mid system.from system.from end.to (expr_piece f.expr) (omega arith) (omega (arith, q1, p2, q2, p3, q3, p4, q4, p5, q5, p6, q6)) (omega (arith, o2.0, o2.1, o2.2.0, o2.2.1)) (expr_in system.from left.to mid ts f d o1)))
  stmt_laid start lo hi _ _ _ (g.runs end {ts} {f} d other) o =
      let (mid, a, b, o1, o2) = order_both lo hi ts (sign SEMICOLON end ∷ []) o in
      let l = expr_lies lo mid Whole ts f d.is o1 in
      stated start lo hi (s.Run f.expr) (across f.outer end) (expr_piece f.expr ∷ []) (run_kind f.expr) (l.0, omega (arith, l.1, l.2, o2.0, o2.1), o2.2)
      (laid_one f.outer.from f.outer.from end.to (expr_piece f.expr) (whole_in f.outer.from f.outer.from end.to f (expr_laid lo mid Whole ts f d.is o1) (omega arith) (omega (arith, l.2, o2.0, o2.1))))

  pub block_stmt_laid : (start lo hi : ℕ) (ts : List Token) (found : FoundStmt) → IsBlockStmt ts found → InOrder lo hi ts → LaidOut start lo hi (stmt_piece found.stmt)
  block_stmt_laid start lo hi _ _ (g.locals end {ts} {mods} {ty} {found} d) o =
      let (mid, a, b, o1, o2) = order_both lo hi ts (sign SEMICOLON end ∷ []) o in
      local_laid start lo mid hi ts mods ty found end d o1 (λ le. omega (arith, le, o2.0, o2.1)) o2.2
  block_stmt_laid start lo hi _ _ (g.stmt {ends} {ts} {found} d) o = stmt_laid start lo hi ends ts found d o

  pub stmts_laid : (start lo hi : ℕ) (ts : List Token) (found : Stmts) → IsStmts ts found → InOrder lo hi ts → Laid start lo hi (map stmt_piece found.stmts)
  stmts_laid start lo hi _ _ g.none o = o
  stmts_laid start lo hi _ _ (g.one_more {ts} {us} {found} {last} d x) o =
      let (mid, a, b, p, q) = order_both lo hi ts us o in
      laid_joined stmt_piece start lo mid mid hi found.stmts last.stmt (stmts_laid start lo mid ts found d p) (block_stmt_laid start mid hi us last x q) (omega arith)
