-- Where the parts of statements stand.
use Rattle.std.proofs.Common.{◌≡◌, ◌≤◌, ◌+◌, ℕ, suc, Bool, List, [], ◌∷◌, ◌++◌, length, Option, Some, None, refl, sym, ap, subst, ◌∙◌, length-append, arith}
use Rattle.ix_text.specs.declared.span.Span.{Span}
use Rattle.ix_lexer.specs.declared.token.Token.{Token}
use Rattle.ix_lexer.specs.declared.fixed.TheConstants.{ELSE, WHILE, SEMICOLON, OPEN_PAREN, CLOSE_PAREN, CLOSE_BRACE}
use Rattle.ix_lexer.specs.Spans.{InOrder}
use Rattle.ix_tree.specs.declared.annot.Ident.{Ident}
use Rattle.ix_tree.specs.declared.decl.LocalDecl.{LocalDecl}
use Rattle.ix_tree.specs.declared.expr.Expr.{Expr}
use Rattle.ix_tree.specs.declared.stmt.Stmt.{Stmt, fold-roll-Stmt}
use Rattle.ix_tree.specs.declared.stmt.StmtKind.{StmtKind, StmtKind-F, fold-StmtKind, fold-roll-StmtKind}
use Rattle.ix_tree.specs.declared.stmt.StmtKind.TheVariants.{rolls-Block, rolls-Empty, rolls-Local, rolls-If, rolls-While, rolls-Do, rolls-For, rolls-Break, rolls-Continue, rolls-Return, rolls-Throw, rolls-Print, rolls-Run}
use Rattle.ix_tree.specs.declared.stmt.StmtKind.TheVariants as s
use Rattle.ix_tree.specs.Parts.{Part, statement, elsewhere, nodes, listed, each, maybe, expr_parts, decl_parts, stmt_kind_step, stmt_step, stmt_parts}
use Rattle.ix_grammar.specs.declared.classes.Stmts.{Stmts}
use Rattle.ix_grammar.specs.declared.declarations.FoundMods.{FoundMods}
use Rattle.ix_grammar.specs.declared.found.Found.{Found}
use Rattle.ix_grammar.specs.declared.found.FoundDecls.{FoundDecls}
use Rattle.ix_grammar.specs.declared.found.FoundStmt.{FoundStmt}
use Rattle.ix_grammar.specs.declared.found.FoundType.{FoundType}
use Rattle.ix_grammar.specs.declared.found.Several.{Several}
use Rattle.ix_grammar.specs.Patterns.{sign}
use Rattle.ix_grammar.specs.DeclGrammar.{local_words}
use Rattle.ix_grammar.specs.ExprNodes.{with_expr}
use Rattle.ix_grammar.specs.ExprGrammar.{Whole, IsStatementExpr}
use Rattle.ix_grammar.specs.StmtGrammar as g
use Rattle.ix_grammar.specs.StmtGrammar.{maybe_expr, run_part, one_run, with_run, one_expr, local_stmt, IsLocal, IsForFirst, IsMaybe, IsUpdate, IsStmt, IsBlockStmt, IsStmts}
use Rattle.ix_tree.proofs.TreeParts.{mapped}
use Rattle.ix_lexer.proofs.SplitInOrder.{order_within, order_both}
use Rattle.ix_tree.proofs.PartPlaces.{stand_joined, stand_alone, stand_no_entries, Stand, stand_none, stand_statement, stand_elsewhere}
use Rattle.ix_grammar_rules.proofs.ExprPlaces.{expr_tokens, expr_stands}
use Rattle.ix_grammar_rules.proofs.DeclPlaces.{wider, beside, decls_stand, listed_stand, separated_trees}

-- Tokens that lie in order, split at one of them.
pub order_at : (lo hi : ℕ) (ts : List Token) (t : Token) (us : List Token) → InOrder lo hi (ts ++ t ∷ us) → (mid : ℕ) × (lo ≤ mid) × (mid ≤ t.span.to) × (t.span.to ≤ hi) × InOrder lo mid ts × InOrder t.span.to hi us
order_at lo hi ts t us o =
    let (mid, a, b, p, q) = order_both lo hi ts (t ∷ us) o in
    (mid, a, omega (arith, q.0, q.1), order_within t.span.to hi us q.2, p, q.2)

-- ---- the parts of each form of statement

abbrev pub stmt_kind_parts : StmtKind → List Part
stmt_kind_parts = fold-StmtKind (List Part) (List Part) stmt_kind_step stmt_step

stmt_is : (k : StmtKind) (span : Span) → stmt_parts (record { kind = k; span = span }) ≡ statement span ∷ stmt_kind_parts k
stmt_is k span = fold-roll-Stmt (List Part) (List Part) stmt_kind_step stmt_step (record { kind = k; span = span })

block_kind : (body : List Stmt) → stmt_kind_parts (s.Block body) ≡ listed (each stmt_parts body)
block_kind body = ap stmt_kind_parts (sym (rolls-Block body)) ∙ fold-roll-StmtKind (List Part) (List Part) stmt_kind_step stmt_step (StmtKind-F.Block body) ∙ ap (λ l. listed l) (mapped stmt_parts body)

empty_kind : stmt_kind_parts s.Empty ≡ []
empty_kind = ap stmt_kind_parts (sym rolls-Empty) ∙ fold-roll-StmtKind (List Part) (List Part) stmt_kind_step stmt_step (StmtKind-F.Empty)

local_kind : (decls : List LocalDecl) → stmt_kind_parts (s.Local decls) ≡ listed (each decl_parts decls)
local_kind decls = ap stmt_kind_parts (sym (rolls-Local decls)) ∙ fold-roll-StmtKind (List Part) (List Part) stmt_kind_step stmt_step (StmtKind-F.Local decls)

if_kind : (f : Expr) (t : Stmt) → stmt_kind_parts (s.If f t None) ≡ expr_parts f ++ stmt_parts t
if_kind f t = ap stmt_kind_parts (sym (rolls-If f t None)) ∙ fold-roll-StmtKind (List Part) (List Part) stmt_kind_step stmt_step (StmtKind-F.If f t None)

if_else_kind : (f : Expr) (t u : Stmt) → stmt_kind_parts (s.If f t (Some u)) ≡ expr_parts f ++ (stmt_parts t ++ stmt_parts u)
if_else_kind f t u = ap stmt_kind_parts (sym (rolls-If f t (Some u))) ∙ fold-roll-StmtKind (List Part) (List Part) stmt_kind_step stmt_step (StmtKind-F.If f t (Some u))

while_kind : (f : Expr) (t : Stmt) → stmt_kind_parts (s.While f t) ≡ expr_parts f ++ stmt_parts t
while_kind f t = ap stmt_kind_parts (sym (rolls-While f t)) ∙ fold-roll-StmtKind (List Part) (List Part) stmt_kind_step stmt_step (StmtKind-F.While f t)

do_kind : (t : Stmt) (f : Expr) → stmt_kind_parts (s.Do t f) ≡ stmt_parts t ++ expr_parts f
do_kind t f = ap stmt_kind_parts (sym (rolls-Do t f)) ∙ fold-roll-StmtKind (List Part) (List Part) stmt_kind_step stmt_step (StmtKind-F.Do t f)

for_kind : (first : List Stmt) (cond : Option Expr) (update : List Expr) (t : Stmt) → stmt_kind_parts (s.For first cond update t) ≡ listed (each stmt_parts first) ++ (maybe expr_parts cond ++ (listed (each expr_parts update) ++ stmt_parts t))
for_kind first cond update t = ap stmt_kind_parts (sym (rolls-For first cond update t)) ∙ fold-roll-StmtKind (List Part) (List Part) stmt_kind_step stmt_step (StmtKind-F.For first cond update t)
    ∙ ap (λ l. listed l ++ (maybe expr_parts cond ++ (listed (each expr_parts update) ++ stmt_parts t))) (mapped stmt_parts first)

break_kind : stmt_kind_parts s.Break ≡ []
break_kind = ap stmt_kind_parts (sym rolls-Break) ∙ fold-roll-StmtKind (List Part) (List Part) stmt_kind_step stmt_step (StmtKind-F.Break)

continue_kind : stmt_kind_parts s.Continue ≡ []
continue_kind = ap stmt_kind_parts (sym rolls-Continue) ∙ fold-roll-StmtKind (List Part) (List Part) stmt_kind_step stmt_step (StmtKind-F.Continue)

return_kind : (value : Option Expr) → stmt_kind_parts (s.Return value) ≡ maybe expr_parts value
return_kind value = ap stmt_kind_parts (sym (rolls-Return value)) ∙ fold-roll-StmtKind (List Part) (List Part) stmt_kind_step stmt_step (StmtKind-F.Return value)

throw_kind : (x : Ident) → stmt_kind_parts (s.Throw x) ≡ elsewhere x ∷ []
throw_kind x = ap stmt_kind_parts (sym (rolls-Throw x)) ∙ fold-roll-StmtKind (List Part) (List Part) stmt_kind_step stmt_step (StmtKind-F.Throw x)

print_kind : (f : Expr) → stmt_kind_parts (s.Print f) ≡ expr_parts f
print_kind f = ap stmt_kind_parts (sym (rolls-Print f)) ∙ fold-roll-StmtKind (List Part) (List Part) stmt_kind_step stmt_step (StmtKind-F.Print f)

run_kind : (f : Expr) → stmt_kind_parts (s.Run f) ≡ expr_parts f
run_kind f = ap stmt_kind_parts (sym (rolls-Run f)) ∙ fold-roll-StmtKind (List Part) (List Part) stmt_kind_step stmt_step (StmtKind-F.Run f)

-- ---- nodes

-- A statement has a token.
stmt_tokens : (lo hi n : ℕ) (x : Stmt) → Stand lo hi n (stmt_parts x) → 1 ≤ n
stmt_tokens lo hi n x stands = omega (arith, stands.few_nodes, ap nodes (stmt_is x.kind x.span))

-- a statement round its parts, which stand further in
round : {a b n : ℕ} {ps : List Part} → Stand a b n ps → (kind : StmtKind) (span : Span) → stmt_kind_parts kind ≡ ps → (lo hi k : ℕ) → lo ≤ a → b ≤ hi → n + 1 ≤ k → Stand lo hi k (stmt_parts (record { kind = kind; span = span }))
round {a} {b} {n} {ps} stands kind span is lo hi k low high le = subst (λ y. Stand lo hi k y) (sym (stmt_is kind span ∙ ap (λ y. statement span ∷ y) is))
    (wider (stand_statement a b n span ps stands) lo hi k low high le)

-- one with no parts
bare : (lo hi k : ℕ) (kind : StmtKind) (span : Span) → stmt_kind_parts kind ≡ [] → 1 ≤ k → Stand lo hi k (stmt_parts (record { kind = kind; span = span }))
bare lo hi k kind span is le = round (stand_none lo hi 0) kind span is lo hi k (omega arith) (omega arith) (omega (arith, le))

-- ---- the parts of statements in the grammar

local_stands : (lo hi : ℕ) (ts : List Token) (mods : FoundMods) (ty : FoundType) (found : FoundDecls) (end : Span) → IsLocal ts mods ty found → InOrder lo hi ts
    → Stand lo hi (length ts + 1) (stmt_parts (local_stmt mods ty found end).stmt)
local_stands lo hi _ _ _ _ end (g.local {first} {second} {third} {mods} {ty} {found} m t d) o =
    let n = length (first ++ (second ++ third)) in
    let (few, stands) = decls_stand local_words lo hi first second third mods ty found m t d o in
    round (listed_stand decl_parts lo hi n found.decls few stands) (s.Local found.decls) (local_stmt mods ty found end).stmt.span (local_kind found.decls) lo hi (n + 1) (omega arith) (omega arith) (omega arith)

run_stands : (lo hi : ℕ) (ts : List Token) (f : Found) → IsStatementExpr ts f → InOrder lo hi ts → (1 ≤ length ts) × Stand lo hi (length ts + 1) (stmt_parts (run_part f).stmt)
run_stands lo hi ts f d o =
    let (l, t) = expr_stands lo hi Whole ts f d.is o in
    (expr_tokens lo hi (length ts) f.expr t, round t (s.Run f.expr) f.outer (run_kind f.expr) lo hi (length ts + 1) (omega arith) (omega arith) (omega arith))

-- A part of the head of a `for` has no token of its own: commas have one for each further part.
for_first_stands : (lo hi : ℕ) (ts : List Token) (first : Stmts) → IsForFirst ts first → InOrder lo hi ts → Stand lo hi (length ts + 1) (listed (each stmt_parts first.stmts))
for_first_stands lo hi _ _ g.no_first o = stand_no_entries stmt_parts lo hi 1
for_first_stands lo hi _ _ (g.locals {ts} {mods} {ty} {found} d) o =
    stand_alone stmt_parts lo hi (length ts + 1) (local_stmt mods ty found found.end).stmt (local_stands lo hi ts mods ty found found.end d o) (omega arith)
for_first_stands lo hi _ _ (g.runs {ts} {found} d) o =
    separated_trees IsStatementExpr (λ f. (run_part f).stmt) stmt_parts (λ x. x.stmts) with_run (λ x f. refl) one_run (λ f. refl) 1 (omega arith) run_stands lo hi ts found d o

maybe_stands : (lo hi : ℕ) (ts : List Token) (value : Option Found) → IsMaybe ts value → InOrder lo hi ts → Stand lo hi (length ts) (maybe expr_parts (maybe_expr value))
maybe_stands lo hi _ _ g.absent o = stand_none lo hi 0
maybe_stands lo hi _ _ (g.present {ts} {f} d) o = (expr_stands lo hi Whole ts f d o).1

update_stands : (lo hi : ℕ) (ts : List Token) (f : Found) → IsStatementExpr ts f → InOrder lo hi ts → (1 ≤ length ts) × Stand lo hi (length ts + 0) (expr_parts f.expr)
update_stands lo hi ts f d o =
    let (l, t) = expr_stands lo hi Whole ts f d.is o in
    (expr_tokens lo hi (length ts) f.expr t, wider t lo hi (length ts + 0) (omega arith) (omega arith) (omega arith))

updates_stand : (lo hi : ℕ) (ts : List Token) (update : Several) → IsUpdate ts update → InOrder lo hi ts → Stand lo hi (length ts) (listed (each expr_parts update.items))
updates_stand lo hi _ _ g.no_update o = stand_no_entries expr_parts lo hi 0
updates_stand lo hi _ _ (g.updates {ts} {found} d) o =
    wider (separated_trees IsStatementExpr (λ f. f.expr) expr_parts (λ x. x.items) with_expr (λ x f. refl) one_expr (λ f. refl) 0 (omega arith) update_stands lo hi ts found d o)
    lo hi (length ts) (omega arith) (omega arith) (omega arith)

-- ---- the grammar

mutual
  pub stmt_stands : (lo hi : ℕ) (ends : Bool) (ts : List Token) (found : FoundStmt) → IsStmt ends ts found → InOrder lo hi ts → Stand lo hi (length ts) (stmt_parts found.stmt)
  stmt_stands lo hi _ _ _ (g.block left right {ts} {found} d) (p, q, o) =
      let (mid, a, b, c, r, w) = order_at left.to hi ts (sign CLOSE_BRACE right) [] o in
      round (stmts_stand left.to mid ts found d r) (s.Block found.stmts) _ (block_kind found.stmts) lo hi (suc (length (ts ++ sign CLOSE_BRACE right ∷ [])))
      (omega (arith, p, q)) (omega (arith, b, c)) (omega (arith, length-append ts (sign CLOSE_BRACE right ∷ [])))
  stmt_stands lo hi _ _ _ (g.empty end) o = bare lo hi 1 s.Empty end empty_kind (omega arith)
  stmt_stands lo hi _ _ _ (g.if_then start left right {ends} {ts} {us} {f} {found} d x) (p, q, (r, w, o)) =
      let (mid, a, b, c, o1, o2) = order_at left.to hi ts (sign CLOSE_PAREN right) us o in
      round (beside (expr_stands left.to mid Whole ts f d o1).1 (stmt_stands right.to hi ends us found x o2) (length ts + length us) a b c (omega arith))
      (s.If f.expr found.stmt None) _ (if_kind f.expr found.stmt) lo hi (suc (suc (length (ts ++ sign CLOSE_PAREN right ∷ us))))
      (omega (arith, p, q, r, w)) (omega arith) (omega (arith, length-append ts (sign CLOSE_PAREN right ∷ us)))
  stmt_stands lo hi _ _ _ (g.if_else start left right middle {ends} {ts} {us} {vs} {f} {found} {other} d x y) (p, q, (r, w, o)) =
      let later = us ++ sign ELSE middle ∷ vs in
      let (mid, a, b, c, o1, o2) = order_at left.to hi ts (sign CLOSE_PAREN right) later o in
      let (far, a2, b2, c2, o3, o4) = order_at right.to hi us (sign ELSE middle) vs o2 in
      round (beside (expr_stands left.to mid Whole ts f d o1).1 (beside (stmt_stands right.to far _ us found x o3) (stmt_stands middle.to hi ends vs other y o4) (length us + length vs) a2 b2 c2 (omega arith))
      (length ts + (length us + length vs)) a b c (omega arith))
      (s.If f.expr found.stmt (Some other.stmt)) _ (if_else_kind f.expr found.stmt other.stmt) lo hi (suc (suc (length (ts ++ sign CLOSE_PAREN right ∷ later))))
      (omega (arith, p, q, r, w)) (omega arith) (omega (arith, length-append ts (sign CLOSE_PAREN right ∷ later), length-append us (sign ELSE middle ∷ vs)))
  stmt_stands lo hi _ _ _ (g.while_do start left right {ends} {ts} {us} {f} {found} d x) (p, q, (r, w, o)) =
      let (mid, a, b, c, o1, o2) = order_at left.to hi ts (sign CLOSE_PAREN right) us o in
      round (beside (expr_stands left.to mid Whole ts f d o1).1 (stmt_stands right.to hi ends us found x o2) (length ts + length us) a b c (omega arith))
      (s.While f.expr found.stmt) _ (while_kind f.expr found.stmt) lo hi (suc (suc (length (ts ++ sign CLOSE_PAREN right ∷ us))))
      (omega (arith, p, q, r, w)) (omega arith) (omega (arith, length-append ts (sign CLOSE_PAREN right ∷ us)))
  stmt_stands lo hi _ _ _ (g.do_while start middle left right end {ends} {ts} {us} {f} {found} x d) (p, q, o) =
      let last = ts ++ sign CLOSE_PAREN right ∷ sign SEMICOLON end ∷ [] in
      let (mid, a, b, c, o1, o2) = order_at start.to hi us (sign WHILE middle) (sign OPEN_PAREN left ∷ last) o in
      let (far, a2, b2, c2, o3, o4) = order_at left.to hi ts (sign CLOSE_PAREN right) (sign SEMICOLON end ∷ []) o2.2 in
      round (beside (stmt_stands start.to mid ends us found x o1) (expr_stands left.to far Whole ts f d o3).1 (length us + length ts) a (omega (arith, b, o2.0, o2.1)) a2 (omega arith))
      (s.Do found.stmt f.expr) _ (do_kind found.stmt f.expr) lo hi (suc (length (us ++ sign WHILE middle ∷ sign OPEN_PAREN left ∷ last)))
      (omega (arith, p, q)) (omega (arith, b2, c2)) (omega (arith, length-append us (sign WHILE middle ∷ sign OPEN_PAREN left ∷ last), length-append ts (sign CLOSE_PAREN right ∷ sign SEMICOLON end ∷ [])))
  stmt_stands lo hi _ _ _ (g.for_do start left first_end cond_end right {ends} {ts} {us} {vs} {ws} {first} {cond} {update} {found} d c u x) (p, q, (r, w, o)) =
      let third = vs ++ sign CLOSE_PAREN right ∷ ws in
      let second = us ++ sign SEMICOLON cond_end ∷ third in
      let (m1, a1, b1, c1, o1, p1) = order_at left.to hi ts (sign SEMICOLON first_end) second o in
      let (m2, a2, b2, c2, o2, p2) = order_at first_end.to hi us (sign SEMICOLON cond_end) third p1 in
      let (m3, a3, b3, c3, o3, p3) = order_at cond_end.to hi vs (sign CLOSE_PAREN right) ws p2 in
      let n = length us + (length vs + length ws) in
      round (beside (for_first_stands left.to m1 ts first d o1) (beside (maybe_stands first_end.to m2 us cond c o2)
      (beside (updates_stand cond_end.to m3 vs update u o3) (stmt_stands right.to hi ends ws found x p3) (length vs + length ws) a3 b3 c3 (omega arith))
      n a2 b2 c2 (omega arith)) (length ts + 1 + n) a1 b1 c1 (omega arith))
      (s.For first.stmts (maybe_expr cond) update.items found.stmt) _ (for_kind first.stmts (maybe_expr cond) update.items found.stmt) lo hi (suc (suc (length (ts ++ sign SEMICOLON first_end ∷ second))))
      (omega (arith, p, q, r, w)) (omega arith)
      (omega (arith, length-append ts (sign SEMICOLON first_end ∷ second), length-append us (sign SEMICOLON cond_end ∷ third), length-append vs (sign CLOSE_PAREN right ∷ ws)))
  stmt_stands lo hi _ _ _ (g.breaks start end) o = bare lo hi 2 s.Break _ break_kind (omega arith)
  stmt_stands lo hi _ _ _ (g.continues start end) o = bare lo hi 2 s.Continue _ continue_kind (omega arith)
  stmt_stands lo hi _ _ _ (g.returns start end {ts} {value} d) (p, q, o) =
      let (mid, a, b, c, o1, o2) = order_at start.to hi ts (sign SEMICOLON end) [] o in
      round (maybe_stands start.to mid ts value d o1) (s.Return (maybe_expr value)) _ (return_kind (maybe_expr value)) lo hi (suc (length (ts ++ sign SEMICOLON end ∷ [])))
      (omega (arith, p, q)) (omega (arith, b, c)) (omega (arith, length-append ts (sign SEMICOLON end ∷ [])))
  stmt_stands lo hi _ _ _ (g.throws start middle x left right end {ts} d) (p, q, (r, w, (a, b, o))) =
      let last = ts ++ sign CLOSE_PAREN right ∷ sign SEMICOLON end ∷ [] in
      round (stand_elsewhere x.span.from x.span.to 0 x (omega arith, b, omega arith)) (s.Throw x) _ (throw_kind x) lo hi (suc (suc (suc (suc (length last)))))
      (omega (arith, p, q, r, w, a)) (order_within x.span.to hi (sign OPEN_PAREN left ∷ last) o) (omega arith)
  stmt_stands lo hi _ _ _ (g.print system dot out second println left right end {ts} {f} d) (p1, q1, (p2, q2, (p3, q3, (p4, q4, (p5, q5, (p6, q6, o)))))) =
      let (mid, a, b, c, o1, o2) = order_at left.to hi ts (sign CLOSE_PAREN right) (sign SEMICOLON end ∷ []) o in
      round (expr_stands left.to mid Whole ts f d o1).1 (s.Print f.expr) _ (print_kind f.expr) lo hi (suc (suc (suc (suc (suc (suc (length (ts ++ sign CLOSE_PAREN right ∷ sign SEMICOLON end ∷ []))))))))
      (omega (arith, p1, q1, p2, q2, p3, q3, p4, q4, p5, q5, p6, q6)) (omega (arith, b, c)) (omega (arith, length-append ts (sign CLOSE_PAREN right ∷ sign SEMICOLON end ∷ [])))
  stmt_stands lo hi _ _ _ (g.runs end {ts} {f} d other) o =
      let (mid, a, b, c, o1, o2) = order_at lo hi ts (sign SEMICOLON end) [] o in
      round (expr_stands lo mid Whole ts f d.is o1).1 (s.Run f.expr) _ (run_kind f.expr) lo hi (length (ts ++ sign SEMICOLON end ∷ []))
      (omega arith) (omega (arith, b, c)) (omega (arith, length-append ts (sign SEMICOLON end ∷ [])))

  pub block_stmt_stands : (lo hi : ℕ) (ts : List Token) (found : FoundStmt) → IsBlockStmt ts found → InOrder lo hi ts → Stand lo hi (length ts) (stmt_parts found.stmt)
  block_stmt_stands lo hi _ _ (g.locals end {ts} {mods} {ty} {found} d) o =
      let (mid, a, b, c, o1, o2) = order_at lo hi ts (sign SEMICOLON end) [] o in
      wider (local_stands lo mid ts mods ty found end d o1) lo hi (length (ts ++ sign SEMICOLON end ∷ [])) (omega arith) (omega (arith, b, c)) (omega (arith, length-append ts (sign SEMICOLON end ∷ [])))
  block_stmt_stands lo hi _ _ (g.stmt {ends} {ts} {found} d) o = stmt_stands lo hi ends ts found d o

  pub stmts_stand : (lo hi : ℕ) (ts : List Token) (found : Stmts) → IsStmts ts found → InOrder lo hi ts → Stand lo hi (length ts) (listed (each stmt_parts found.stmts))
  stmts_stand lo hi _ _ g.none o = stand_no_entries stmt_parts lo hi 0
  stmts_stand lo hi _ _ (g.one_more {ts} {us} {found} {last} d x) o =
      let (mid, a, b, p, q) = order_both lo hi ts us o in
      let t = block_stmt_stands mid hi us last x q in
      stand_joined stmt_parts lo mid mid hi (length ts) (length us) (length (ts ++ us)) found.stmts last.stmt (stmts_stand lo mid ts found d p) t
      a (omega arith) b (stmt_tokens mid hi (length us) last.stmt t) (omega (arith, length-append ts us))

-- a statement of a block, which has a token
pub body_stmt_stands : (lo hi : ℕ) (ts : List Token) (found : FoundStmt) → IsBlockStmt ts found → InOrder lo hi ts → (1 ≤ length ts) × Stand lo hi (length ts + 0) (stmt_parts found.stmt)
body_stmt_stands lo hi ts found d o =
    let t = block_stmt_stands lo hi ts found d o in
    (stmt_tokens lo hi (length ts) found.stmt t, wider t lo hi (length ts + 0) (omega arith) (omega arith) (omega arith))
