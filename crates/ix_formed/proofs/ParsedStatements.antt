-- Types, declarations and statements of the grammar have the forms that lowering rests on.
use Rattle.std.proofs.Common.{◌≡◌, Bool, true, false, List, [], ◌∷◌, ◌++◌, map, Option, Some, None, refl, sym, ap, subst, ◌∙◌}
use Rattle.std.specs.Prelude.{nat_lt, ◌&&◌, not}
use Rattle.ix_text.specs.declared.span.Span.{Span}
use Rattle.ix_lexer.specs.declared.token.Token.{Token}
use Rattle.ix_lexer.specs.declared.fixed.TheConstants.{ELSE, WHILE, COMMA, SEMICOLON, CLOSE_PAREN, CLOSE_BRACE, OPEN_PAREN}
use Rattle.ix_tree.specs.declared.decl.LocalDecl.{LocalDecl}
use Rattle.ix_tree.specs.declared.expr.Expr.{Expr}
use Rattle.ix_tree.specs.declared.stmt.Stmt.{Stmt}
use Rattle.ix_tree.specs.declared.stmt.StmtKind.{StmtKind}
use Rattle.ix_tree.specs.declared.stmt.StmtKind.TheVariants as s
use Rattle.ix_grammar.specs.declared.classes.Stmts.{Stmts}
use Rattle.ix_grammar.specs.declared.declarations.FoundDecl.{FoundDecl}
use Rattle.ix_grammar.specs.declared.declarations.FoundMods.{FoundMods}
use Rattle.ix_grammar.specs.declared.declarations.Params.{Params}
use Rattle.ix_grammar.specs.declared.declarations.Shared.{Shared}
use Rattle.ix_grammar.specs.declared.found.Found.{Found}
use Rattle.ix_grammar.specs.declared.found.FoundDecls.{FoundDecls}
use Rattle.ix_grammar.specs.declared.found.FoundStmt.{FoundStmt}
use Rattle.ix_grammar.specs.declared.found.FoundType.{FoundType}
use Rattle.ix_grammar.specs.declared.found.Several.{Several}
use Rattle.ix_grammar.specs.Nodes.{across}
use Rattle.ix_grammar.specs.Patterns.{sign}
use Rattle.ix_grammar.specs.Lists.{IsSeparated, IsRepeated, first_item, next_item, no_item, one_more}
use Rattle.ix_grammar.specs.TypeGrammar as types
use Rattle.ix_grammar.specs.TypeGrammar.{IsType}
use Rattle.ix_grammar.specs.DeclGrammar as d
use Rattle.ix_grammar.specs.DeclGrammar.{IsDecl, IsDecls, IsParam, IsParams, shared, one_decl, with_decl, one_param, with_param}
use Rattle.ix_grammar.specs.ExprNodes.{with_expr}
use Rattle.ix_grammar.specs.ExprGrammar.{Whole, IsInit, IsStatementExpr}
use Rattle.ix_grammar.specs.StmtGrammar as g
use Rattle.ix_grammar.specs.StmtGrammar.{maybe_expr, run_part, one_run, with_run, one_expr, local_stmt, IsLocal, IsForFirst, IsMaybe, IsUpdate, IsStmt, IsBlockStmt, IsStmts}
use Rattle.ix_formed.specs.Additions.{AllOf}
use Rattle.ix_formed.specs.Readable as readable
use Rattle.ix_formed.specs.Readable.{Statement, stmt_shape, each_fine, is_part, is_readable_expr, is_readable_decl}
use Rattle.ix_formed.specs.Written as written
use Rattle.ix_formed.specs.Written.{is_written_expr, is_written_init, is_written_type, is_written_decl, is_written_stmt, is_empty, all_true, each_true, maybe_true}
use Rattle.ix_formed.proofs.NumberLists.{both_true, all_joined}
use Rattle.ix_formed.proofs.AcceptedMembers.{or_later}
use Rattle.ix_formed.specs.IntTokens.{HaveInts}
use Rattle.ix_tree.proofs.FoldsOfForms as fold
use Rattle.ix_formed.proofs.ParsedExpressions.{IsFine, each_is, all_are, ints_split, some_pairs, expr_found, init_found}

-- ---- repetitions of the grammar

module _ {A B : Type 0} (Item : List Token → A → Type 0) (tree : A → B) (So : B → Type 0) (found : (ts : List Token) (x : A) → Item ts x → HaveInts ts → So (tree x)) {S : Type 0} (list : S → List B) (add : S → A → S)
    (adds : (s : S) (x : A) → list (add s x) ≡ list s ++ tree x ∷ []) where
  pub repeated_found : (none : S) → list none ≡ [] → (ts : List Token) (s : S) → IsRepeated Item none add ts s → HaveInts ts → AllOf So (list s)
  repeated_found none empty _ _ no_item ints = subst (AllOf So) (sym empty) tt
  repeated_found none empty _ _ (one_more {before} {tokens} {items} {item} r i) ints =
      let j = ints_split before tokens ints in
      subst (AllOf So) (sym (adds items item)) (all_joined So (list items) (tree item ∷ []) (repeated_found none empty before items r j.0) (found tokens item i j.1, tt))

  pub separated_found : (first : A → S) → ((x : A) → list (first x) ≡ tree x ∷ []) → (ts : List Token) (s : S) → IsSeparated Item first add ts s → HaveInts ts → AllOf So (list s)
  separated_found first starts _ _ (first_item {tokens} {item} i) ints = subst (AllOf So) (sym (starts item)) (found tokens item i ints, tt)
  separated_found first starts _ _ (next_item {before} {tokens} {items} {item} comma r i) ints =
      let j = ints_split before (sign COMMA comma ∷ tokens) ints in
      subst (AllOf So) (sym (adds items item)) (all_joined So (list items) (tree item ∷ []) (separated_found first starts before items r j.0) (found tokens item i j.1.1, tt))

-- ---- types and declarations

pub type_found : (ts : List Token) (ty : FoundType) → IsType ts ty → is_written_type ty.ty ≡ true
type_found _ _ (types.type b types.no_rest) = refl
type_found _ _ (types.type b (types.array {before} {tokens} {notes} {pairs} n p)) = or_later (is_empty notes.annots) (nat_lt 0 pairs.value) (some_pairs tokens pairs p)

pub record IsFineDecl (decl : LocalDecl) : Type 0 where
  pub written : is_written_decl decl ≡ true
  pub readable : is_readable_decl decl ≡ true

decl_found : (all : Shared) → is_written_type all.ty ≡ true → (ts : List Token) (found : FoundDecl) → IsDecl IsInit all ts found → HaveInts ts → IsFineDecl found.decl
decl_found all fine _ _ (d.plain name) ints = record { written = both_true (is_written_type all.ty) true fine refl; readable = refl }
decl_found all fine _ _ (d.with_init name assign {tokens} {found} r) ints =
    let i = init_found tokens found r ints.1.1 in record { written = both_true (is_written_type all.ty) (is_written_init found.init) fine i.written; readable = i.readable }

pub decls_found : (all : Shared) → is_written_type all.ty ≡ true → (ts : List Token) (found : FoundDecls) → IsDecls IsInit all ts found → HaveInts ts → AllOf IsFineDecl found.decls
decls_found all fine ts found r ints = separated_found (IsDecl IsInit all) (λ x. x.decl) IsFineDecl (decl_found all fine) (λ s. s.decls) with_decl (λ s x. refl) one_decl (λ x. refl) ts found r ints

param_found : (ts : List Token) (found : FoundDecl) → IsParam ts found → HaveInts ts → IsFineDecl found.decl
param_found _ _ (d.param {before} {tokens} {mods} {ty} name m r) ints = record { written = both_true (is_written_type ty.ty) true (type_found tokens ty r) refl; readable = refl }

pub params_found : (ts : List Token) (params : Params) → IsParams ts params → HaveInts ts → AllOf IsFineDecl params.params
params_found _ _ (d.none left right) ints = tt
params_found _ _ (d.some left right {tokens} {params} r) ints =
    separated_found IsParam (λ x. x.decl) IsFineDecl param_found (λ s. s.params) with_param (λ s x. refl) one_param (λ x. refl) tokens params r (ints_split tokens (sign CLOSE_PAREN right ∷ []) ints.1).0

-- ---- statements

pub record IsFineStmt (x : Stmt) : Type 0 where
  pub written : is_written_stmt x ≡ true
  pub readable : (stmt_shape x).fine ≡ true

-- A statement that may be a part of another.
pub record IsPart (x : Stmt) : Type 0 where
  pub fine : IsFineStmt x
  pub alone : (stmt_shape x).declares ≡ false

abbrev kind_written : StmtKind → Bool
kind_written = fold.of_stmt_kind written.stmt_kind_step (λ stmt. stmt.kind)

abbrev kind_shape : StmtKind → Statement
kind_shape = fold.of_stmt_kind readable.stmt_kind_step (λ stmt. stmt.kind)

-- a node of a form by the two folds over it
fine_node : (k : StmtKind) (span : Span) (w : Bool) (r : Statement) → kind_written k ≡ w → kind_shape k ≡ r → w ≡ true → r.fine ≡ true → IsFineStmt (record { kind = k; span = span })
fine_node k span w r is_w is_r fine fine_too = record {
  written = fold.stmt_is written.stmt_kind_step (λ stmt. stmt.kind) k span ∙ is_w ∙ fine;
  readable = ap (λ (x : Statement). x.fine) (fold.stmt_is readable.stmt_kind_step (λ stmt. stmt.kind) k span ∙ is_r) ∙ fine_too;
}

part_node : (k : StmtKind) (span : Span) (w : Bool) (r : Statement) → kind_written k ≡ w → kind_shape k ≡ r → w ≡ true → r.fine ≡ true → r.declares ≡ false → IsPart (record { kind = k; span = span })
part_node k span w r is_w is_r fine fine_too alone = record {
  fine = fine_node k span w r is_w is_r fine fine_too;
  alone = ap (λ (x : Statement). x.declares) (fold.stmt_is readable.stmt_kind_step (λ stmt. stmt.kind) k span ∙ is_r) ∙ alone;
}

part_is : (x : Stmt) → IsPart x → is_part (stmt_shape x) ≡ true
part_is x p = both_true (not (stmt_shape x).declares) (stmt_shape x).fine (ap not p.alone) p.fine.readable

stmts_written : (xs : List Stmt) → AllOf IsFineStmt xs → all_true (map is_written_stmt xs) ≡ true
stmts_written xs all = all_are is_written_stmt IsFineStmt (λ x f. f.written) xs all

stmts_readable : (xs : List Stmt) → AllOf IsFineStmt xs → each_fine (map stmt_shape xs) ≡ true
stmts_readable [] all = refl
stmts_readable (x ∷ xs) all = both_true (stmt_shape x).fine (each_fine (map stmt_shape xs)) all.0.readable (stmts_readable xs all.1)

exprs_written : (xs : List Expr) → AllOf IsFine xs → each_true is_written_expr xs ≡ true
exprs_written xs all = each_is is_written_expr IsFine (λ x f. f.written) xs all

exprs_readable : (xs : List Expr) → AllOf IsFine xs → each_true is_readable_expr xs ≡ true
exprs_readable xs all = each_is is_readable_expr IsFine (λ x f. f.readable) xs all

local_found : (ts : List Token) (mods : FoundMods) (ty : FoundType) (found : FoundDecls) (end : Span) → IsLocal ts mods ty found → HaveInts ts → IsFineStmt (local_stmt mods ty found end).stmt
local_found _ _ _ _ end (g.local {first} {second} {third} {mods} {ty} {found} m t r) ints =
    let i = (ints_split second third (ints_split first (second ++ third) ints).1).1 in
    let all = decls_found (shared mods ty) (type_found second ty t) third found r i in
    fine_node (s.Local found.decls) (local_stmt mods ty found end).stmt.span _ _ (fold.local_kind written.stmt_kind_step (λ stmt. stmt.kind) found.decls) (fold.local_kind readable.stmt_kind_step (λ stmt. stmt.kind) found.decls)
    (each_is is_written_decl IsFineDecl (λ x f. f.written) found.decls all) (each_is is_readable_decl IsFineDecl (λ x f. f.readable) found.decls all)

run_found : (ts : List Token) (f : Found) → IsStatementExpr ts f → HaveInts ts → (span : Span) → IsPart (record { kind = s.Run f.expr; span = span })
run_found ts f r ints span =
    let x = (expr_found Whole ts f r.is ints).fine in
    part_node (s.Run f.expr) span _ _ (fold.run_kind written.stmt_kind_step (λ stmt. stmt.kind) f.expr) (fold.run_kind readable.stmt_kind_step (λ stmt. stmt.kind) f.expr) x.written x.readable refl

first_found : (ts : List Token) (first : Stmts) → IsForFirst ts first → HaveInts ts → AllOf IsFineStmt first.stmts
first_found _ _ g.no_first ints = tt
first_found _ _ (g.locals {ts} {mods} {ty} {found} r) ints = (local_found ts mods ty found found.end r ints, tt)
first_found _ _ (g.runs {ts} {found} r) ints =
    separated_found IsStatementExpr (λ f. (run_part f).stmt) IsFineStmt (λ ts f r ints. (run_found ts f r ints f.outer).fine) (λ x. x.stmts) with_run (λ x f. refl) one_run (λ f. refl) ts found r ints

-- where there is an expression
abbrev MaybeFine : Option Expr → Type 0
MaybeFine o = (maybe_true is_written_expr o ≡ true) × (maybe_true is_readable_expr o ≡ true)

maybe_found : (ts : List Token) (value : Option Found) → IsMaybe ts value → HaveInts ts → MaybeFine (maybe_expr value)
maybe_found _ _ g.absent ints = (refl, refl)
maybe_found _ _ (g.present {ts} {f} r) ints = let x = (expr_found Whole ts f r ints).fine in (x.written, x.readable)

updates_found : (ts : List Token) (update : Several) → IsUpdate ts update → HaveInts ts → AllOf IsFine update.items
updates_found _ _ g.no_update ints = tt
updates_found _ _ (g.updates {ts} {found} r) ints =
    separated_found IsStatementExpr (λ f. f.expr) IsFine (λ ts f r ints. (expr_found Whole ts f r.is ints).fine) (λ x. x.items) with_expr (λ x f. refl) one_expr (λ f. refl) ts found r ints

mutual
  stmt_found : (ends : Bool) (ts : List Token) (found : FoundStmt) → IsStmt ends ts found → HaveInts ts → IsPart found.stmt
  stmt_found _ _ _ (g.block left right {ts} {found} r) ints =
      let all = stmts_found ts found r (ints_split ts (sign CLOSE_BRACE right ∷ []) ints.1).0 in
      part_node (s.Block found.stmts) (across left right) _ _ (fold.block_kind written.stmt_kind_step (λ stmt. stmt.kind) found.stmts) (fold.block_kind readable.stmt_kind_step (λ stmt. stmt.kind) found.stmts)
      (stmts_written found.stmts all) (stmts_readable found.stmts all) refl
  stmt_found _ _ _ (g.empty end) ints = part_node s.Empty end _ _ (fold.empty_kind written.stmt_kind_step (λ stmt. stmt.kind)) (fold.empty_kind readable.stmt_kind_step (λ stmt. stmt.kind)) refl refl refl
  stmt_found _ _ _ (g.if_then start left right {ends} {ts} {us} {f} {found} r x) ints =
      let i = ints_split ts (sign CLOSE_PAREN right ∷ us) ints.1.1 in
      let c = (expr_found Whole ts f r i.0).fine in
      let t = stmt_found ends us found x i.1.1 in
      part_node (s.If f.expr found.stmt None) (across start found.stmt.span) _ _ (fold.if_kind written.stmt_kind_step (λ stmt. stmt.kind) f.expr found.stmt) (fold.if_kind readable.stmt_kind_step (λ stmt. stmt.kind) f.expr found.stmt)
      (both_true (is_written_expr f.expr) (is_written_stmt found.stmt && true) c.written (both_true (is_written_stmt found.stmt) true t.fine.written refl))
      (both_true (is_readable_expr f.expr) (is_part (stmt_shape found.stmt) && true) c.readable (both_true (is_part (stmt_shape found.stmt)) true (part_is found.stmt t) refl)) refl
  stmt_found _ _ _ (g.if_else start left right middle {ends} {ts} {us} {vs} {f} {found} {other} r x y) ints =
      let i = ints_split ts (sign CLOSE_PAREN right ∷ (us ++ sign ELSE middle ∷ vs)) ints.1.1 in
      let j = ints_split us (sign ELSE middle ∷ vs) i.1.1 in
      let c = (expr_found Whole ts f r i.0).fine in
      let t = stmt_found false us found x j.0 in
      let u = stmt_found ends vs other y j.1.1 in
      part_node (s.If f.expr found.stmt (Some other.stmt)) (across start other.stmt.span) _ _ (fold.if_else_kind written.stmt_kind_step (λ stmt. stmt.kind) f.expr found.stmt other.stmt)
      (fold.if_else_kind readable.stmt_kind_step (λ stmt. stmt.kind) f.expr found.stmt other.stmt)
      (both_true (is_written_expr f.expr) (is_written_stmt found.stmt && is_written_stmt other.stmt) c.written (both_true (is_written_stmt found.stmt) (is_written_stmt other.stmt) t.fine.written u.fine.written))
      (both_true (is_readable_expr f.expr) (is_part (stmt_shape found.stmt) && is_part (stmt_shape other.stmt)) c.readable
      (both_true (is_part (stmt_shape found.stmt)) (is_part (stmt_shape other.stmt)) (part_is found.stmt t) (part_is other.stmt u))) refl
  stmt_found _ _ _ (g.while_do start left right {ends} {ts} {us} {f} {found} r x) ints =
      let i = ints_split ts (sign CLOSE_PAREN right ∷ us) ints.1.1 in
      let c = (expr_found Whole ts f r i.0).fine in
      let t = stmt_found ends us found x i.1.1 in
      part_node (s.While f.expr found.stmt) (across start found.stmt.span) _ _ (fold.while_kind written.stmt_kind_step (λ stmt. stmt.kind) f.expr found.stmt) (fold.while_kind readable.stmt_kind_step (λ stmt. stmt.kind) f.expr found.stmt)
      (both_true (is_written_expr f.expr) (is_written_stmt found.stmt) c.written t.fine.written) (both_true (is_readable_expr f.expr) (is_part (stmt_shape found.stmt)) c.readable (part_is found.stmt t)) refl
  stmt_found _ _ _ (g.do_while start middle left right end {ends} {ts} {us} {f} {found} x r) ints =
      let i = ints_split us (sign WHILE middle ∷ sign OPEN_PAREN left ∷ (ts ++ sign CLOSE_PAREN right ∷ sign SEMICOLON end ∷ [])) ints.1 in
      let c = (expr_found Whole ts f r (ints_split ts (sign CLOSE_PAREN right ∷ sign SEMICOLON end ∷ []) i.1.1.1).0).fine in
      let t = stmt_found ends us found x i.0 in
      part_node (s.Do found.stmt f.expr) (across start end) _ _ (fold.do_kind written.stmt_kind_step (λ stmt. stmt.kind) found.stmt f.expr) (fold.do_kind readable.stmt_kind_step (λ stmt. stmt.kind) found.stmt f.expr)
      (both_true (is_written_stmt found.stmt) (is_written_expr f.expr) t.fine.written c.written) (both_true (is_part (stmt_shape found.stmt)) (is_readable_expr f.expr) (part_is found.stmt t) c.readable) refl
  stmt_found _ _ _ (g.for_do start left first_end cond_end right {ends} {ts} {us} {vs} {ws} {first} {cond} {update} {found} r m u x) ints =
      let i = ints_split ts (sign SEMICOLON first_end ∷ (us ++ sign SEMICOLON cond_end ∷ (vs ++ sign CLOSE_PAREN right ∷ ws))) ints.1.1 in
      let j = ints_split us (sign SEMICOLON cond_end ∷ (vs ++ sign CLOSE_PAREN right ∷ ws)) i.1.1 in
      let k = ints_split vs (sign CLOSE_PAREN right ∷ ws) j.1.1 in
      let a = first_found ts first r i.0 in
      let c = maybe_found us cond m j.0 in
      let w = updates_found vs update u k.0 in
      let t = stmt_found ends ws found x k.1.1 in
      part_node (s.For first.stmts (maybe_expr cond) update.items found.stmt) (across start found.stmt.span) _ _
      (fold.for_kind written.stmt_kind_step (λ stmt. stmt.kind) first.stmts (maybe_expr cond) update.items found.stmt) (fold.for_kind readable.stmt_kind_step (λ stmt. stmt.kind) first.stmts (maybe_expr cond) update.items found.stmt)
      (both_true (all_true (map is_written_stmt first.stmts)) (maybe_true is_written_expr (maybe_expr cond) && (each_true is_written_expr update.items && is_written_stmt found.stmt)) (stmts_written first.stmts a)
      (both_true (maybe_true is_written_expr (maybe_expr cond)) (each_true is_written_expr update.items && is_written_stmt found.stmt) c.0
      (both_true (each_true is_written_expr update.items) (is_written_stmt found.stmt) (exprs_written update.items w) t.fine.written)))
      (both_true (each_fine (map stmt_shape first.stmts)) (maybe_true is_readable_expr (maybe_expr cond) && (each_true is_readable_expr update.items && is_part (stmt_shape found.stmt))) (stmts_readable first.stmts a)
      (both_true (maybe_true is_readable_expr (maybe_expr cond)) (each_true is_readable_expr update.items && is_part (stmt_shape found.stmt)) c.1
      (both_true (each_true is_readable_expr update.items) (is_part (stmt_shape found.stmt)) (exprs_readable update.items w) (part_is found.stmt t)))) refl
  stmt_found _ _ _ (g.breaks start end) ints = part_node s.Break (across start end) _ _ (fold.break_kind written.stmt_kind_step (λ stmt. stmt.kind)) (fold.break_kind readable.stmt_kind_step (λ stmt. stmt.kind)) refl refl refl
  stmt_found _ _ _ (g.continues start end) ints = part_node s.Continue (across start end) _ _ (fold.continue_kind written.stmt_kind_step (λ stmt. stmt.kind)) (fold.continue_kind readable.stmt_kind_step (λ stmt. stmt.kind)) refl refl refl
  stmt_found _ _ _ (g.returns start end {ts} {value} r) ints =
      let v = maybe_found ts value r (ints_split ts (sign SEMICOLON end ∷ []) ints.1).0 in
      part_node (s.Return (maybe_expr value)) (across start end) _ _ (fold.return_kind written.stmt_kind_step (λ stmt. stmt.kind) (maybe_expr value)) (fold.return_kind readable.stmt_kind_step (λ stmt. stmt.kind) (maybe_expr value)) v.0 v.1 refl
  stmt_found _ _ _ (g.throws start middle x left right end r) ints = part_node (s.Throw x) (across start end) _ _ (fold.throw_kind written.stmt_kind_step (λ stmt. stmt.kind) x) (fold.throw_kind readable.stmt_kind_step (λ stmt. stmt.kind) x) refl refl refl
  stmt_found _ _ _ (g.print system dot out second println left right end {ts} {f} r) ints =
      let v = (expr_found Whole ts f r (ints_split ts (sign CLOSE_PAREN right ∷ sign SEMICOLON end ∷ []) ints.1.1.1.1.1.1).0).fine in
      part_node (s.Print f.expr) (across system end) _ _ (fold.print_kind written.stmt_kind_step (λ stmt. stmt.kind) f.expr) (fold.print_kind readable.stmt_kind_step (λ stmt. stmt.kind) f.expr) v.written v.readable refl
  stmt_found _ _ _ (g.runs end {ts} {f} r other) ints = run_found ts f r (ints_split ts (sign SEMICOLON end ∷ []) ints).0 (across f.outer end)

  pub block_stmt_found : (ts : List Token) (found : FoundStmt) → IsBlockStmt ts found → HaveInts ts → IsFineStmt found.stmt
  block_stmt_found _ _ (g.locals end {ts} {mods} {ty} {found} r) ints = local_found ts mods ty found end r (ints_split ts (sign SEMICOLON end ∷ []) ints).0
  block_stmt_found _ _ (g.stmt {ends} {ts} {found} r) ints = (stmt_found ends ts found r ints).fine

  stmts_found : (ts : List Token) (found : Stmts) → IsStmts ts found → HaveInts ts → AllOf IsFineStmt found.stmts
  stmts_found _ _ g.none ints = tt
  stmts_found _ _ (g.one_more {ts} {us} {found} {last} r x) ints =
      let i = ints_split ts us ints in all_joined IsFineStmt found.stmts (last.stmt ∷ []) (stmts_found ts found r i.0) (block_stmt_found us last x i.1, tt)
