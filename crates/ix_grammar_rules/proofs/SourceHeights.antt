-- Statements, members, classes and sources are at most as high as their derivations.
use Rattle.std.proofs.Common.{◌≡◌, ◌≤◌, max, Bool, true, false, List, [], ◌∷◌, ◌++◌, Option, Some, None, refl, ap, arith}
use Rattle.ix_text.specs.declared.span.Span.{Span}
use Rattle.ix_lexer.specs.declared.token.Token.{Token}
use Rattle.ix_tree.specs.declared.annot.Ident.{Ident}
use Rattle.ix_tree.specs.declared.decl.LocalDecl.{LocalDecl}
use Rattle.ix_tree.specs.declared.decl.Member.{Member}
use Rattle.ix_tree.specs.declared.stmt.StmtKind.TheVariants as s
use Rattle.ix_tree.specs.Heights.{of_maybe, of_all, name_height, mods_height, type_height, expr_height, decl_height, stmt_height, args_height, member_height, class_height, unit_height}
use Rattle.ix_tree.proofs.HeightParts.{of_joined}
use Rattle.ix_tree.proofs.StatementHeights.{stmt_is, block_kind, empty_kind, local_kind, if_kind, if_else_kind, while_kind, do_kind, for_kind, break_kind, continue_kind, return_kind, throw_kind, print_kind, run_kind}
use Rattle.ix_grammar.specs.declared.classes.Behind.{Behind}
use Rattle.ix_grammar.specs.declared.classes.Body.{Body}
use Rattle.ix_grammar.specs.declared.classes.FoundClass.{FoundClass}
use Rattle.ix_grammar.specs.declared.classes.FoundUnit.{FoundUnit}
use Rattle.ix_grammar.specs.declared.classes.Members.{Members}
use Rattle.ix_grammar.specs.declared.classes.Stmts.{Stmts}
use Rattle.ix_grammar.specs.declared.declarations.FoundMods.{FoundMods}
use Rattle.ix_grammar.specs.declared.found.Found.{Found}
use Rattle.ix_grammar.specs.declared.found.FoundDecls.{FoundDecls}
use Rattle.ix_grammar.specs.declared.found.FoundStmt.{FoundStmt}
use Rattle.ix_grammar.specs.declared.found.FoundType.{FoundType}
use Rattle.ix_grammar.specs.declared.found.Several.{Several}
use Rattle.ix_grammar.specs.Nodes.{across}
use Rattle.ix_grammar.specs.Lists.{IsRepeated, no_item, one_more}
use Rattle.ix_grammar.specs.DeclGrammar.{begins, shared, local_words, member_words}
use Rattle.ix_grammar.specs.ExprNodes.{with_expr}
use Rattle.ix_grammar.specs.ExprGrammar.{Whole, IsStatementExpr}
use Rattle.ix_grammar.specs.StmtGrammar as g
use Rattle.ix_grammar.specs.StmtGrammar.{maybe_expr, maybe_height, run_part, one_run, with_run, one_expr, local_stmt, IsLocal, IsForFirst, IsMaybe, IsUpdate, IsStmt, IsBlockStmt, IsStmts}
use Rattle.ix_grammar.specs.ClassGrammar as c
use Rattle.ix_grammar.specs.ClassGrammar.{IsBody, IsBehind, IsMember, IsClass, result_tree, result_height, method_of, fields, no_stmts, with_stmt, no_members, with_members, no_classes, with_class}
use Rattle.ix_grammar.specs.SourceGrammar.{source_parts, IsSource}
use Rattle.ix_grammar_rules.proofs.HeightLaws.{repeated_low, separated_low, mods_low, type_low, expr_low, args_low, shared_low, decls_low, params_low}

-- ---- statements

local_low : (ts : List Token) (mods : FoundMods) (ty : FoundType) (found : FoundDecls) (end : Span) → IsLocal ts mods ty found → stmt_height (local_stmt mods ty found end).stmt ≤ (local_stmt mods ty found end).height
local_low _ _ _ _ end (g.local {first} {second} {third} {mods} {ty} {found} m t d) =
    omega (arith, stmt_is (s.Local found.decls) (local_stmt mods ty found end).stmt.span, local_kind found.decls, decls_low (shared mods ty) (shared_low local_words first second mods ty m t) third found d)

run_low : (ts : List Token) (f : Found) → IsStatementExpr ts f → stmt_height (run_part f).stmt ≤ (run_part f).height
run_low ts f d = omega (arith, stmt_is (s.Run f.expr) f.outer, run_kind f.expr, expr_low Whole ts f d.is)

first_low : (ts : List Token) (first : Stmts) → IsForFirst ts first → of_all stmt_height first.stmts ≤ first.height
first_low _ _ g.no_first = omega arith
first_low _ _ (g.locals {ts} {mods} {ty} {found} d) = omega (arith, local_low ts mods ty found found.end d)
first_low _ _ (g.runs {ts} {found} d) =
    separated_low IsStatementExpr (λ f. (run_part f).stmt) stmt_height (λ f. (run_part f).height) run_low (λ x. x.stmts) (λ x. x.height) with_run (λ x f. refl) (λ x f. refl) one_run (λ f. refl) (λ f. omega arith) ts found d

maybe_low : (ts : List Token) (value : Option Found) → IsMaybe ts value → of_maybe expr_height (maybe_expr value) ≤ maybe_height value
maybe_low _ _ g.absent = omega arith
maybe_low _ _ (g.present {ts} {f} d) = expr_low Whole ts f d

updates_low : (ts : List Token) (update : Several) → IsUpdate ts update → of_all expr_height update.items ≤ update.height
updates_low _ _ g.no_update = omega arith
updates_low _ _ (g.updates {ts} {found} d) =
    separated_low IsStatementExpr (λ f. f.expr) expr_height (λ f. f.height) (λ ts f d. expr_low Whole ts f d.is) (λ x. x.items) (λ x. x.height) with_expr (λ x f. refl) (λ x f. refl) one_expr (λ f. refl) (λ f. omega arith) ts found d

mutual
  stmt_low : (ends : Bool) (ts : List Token) (found : FoundStmt) → IsStmt ends ts found → stmt_height found.stmt ≤ found.height
  stmt_low _ _ _ (g.block left right {ts} {found} d) = omega (arith, stmt_is (s.Block found.stmts) (across left right), block_kind found.stmts, stmts_low ts found d)
  stmt_low _ _ _ (g.empty end) = omega (arith, stmt_is s.Empty end, empty_kind)
  stmt_low _ _ _ (g.if_then start left right {ends} {ts} {us} {f} {found} d x) =
      omega (arith, stmt_is (s.If f.expr found.stmt None) (across start found.stmt.span), if_kind f.expr found.stmt, expr_low Whole ts f d, stmt_low ends us found x)
  stmt_low _ _ _ (g.if_else start left right middle {ends} {ts} {us} {vs} {f} {found} {other} d x y) =
      omega (arith, stmt_is (s.If f.expr found.stmt (Some other.stmt)) (across start other.stmt.span), if_else_kind f.expr found.stmt other.stmt, expr_low Whole ts f d, stmt_low _ us found x, stmt_low ends vs other y)
  stmt_low _ _ _ (g.while_do start left right {ends} {ts} {us} {f} {found} d x) =
      omega (arith, stmt_is (s.While f.expr found.stmt) (across start found.stmt.span), while_kind f.expr found.stmt, expr_low Whole ts f d, stmt_low ends us found x)
  stmt_low _ _ _ (g.do_while start middle left right end {ends} {ts} {us} {f} {found} x d) =
      omega (arith, stmt_is (s.Do found.stmt f.expr) (across start end), do_kind found.stmt f.expr, expr_low Whole ts f d, stmt_low ends us found x)
  stmt_low _ _ _ (g.for_do start left first_end cond_end right {ends} {ts} {us} {vs} {ws} {first} {cond} {update} {found} d m u x) =
      omega (
        arith,
        stmt_is (s.For first.stmts (maybe_expr cond) update.items found.stmt) (across start found.stmt.span),
        for_kind first.stmts (maybe_expr cond) update.items found.stmt,
        first_low ts first d,
        maybe_low us cond m,
        updates_low vs update u,
        stmt_low ends ws found x,
      )
  stmt_low _ _ _ (g.breaks start end) = omega (arith, stmt_is s.Break (across start end), break_kind)
  stmt_low _ _ _ (g.continues start end) = omega (arith, stmt_is s.Continue (across start end), continue_kind)
  stmt_low _ _ _ (g.returns start end {ts} {value} d) = omega (arith, stmt_is (s.Return (maybe_expr value)) (across start end), return_kind (maybe_expr value), maybe_low ts value d)
  stmt_low _ _ _ (g.throws start middle x left right end d) = omega (arith, stmt_is (s.Throw x) (across start end), throw_kind x)
  stmt_low _ _ _ (g.print system dot out second println left right end {ts} {f} d) = omega (arith, stmt_is (s.Print f.expr) (across system end), print_kind f.expr, expr_low Whole ts f d)
  stmt_low _ _ _ (g.runs end {ts} {f} d other) = omega (arith, stmt_is (s.Run f.expr) (across f.outer end), run_kind f.expr, expr_low Whole ts f d.is)

  block_stmt_low : (ts : List Token) (found : FoundStmt) → IsBlockStmt ts found → stmt_height found.stmt ≤ found.height
  block_stmt_low _ _ (g.locals end {ts} {mods} {ty} {found} d) = local_low ts mods ty found end d
  block_stmt_low _ _ (g.stmt {ends} {ts} {found} d) = stmt_low ends ts found d

  stmts_low : (ts : List Token) (found : Stmts) → IsStmts ts found → of_all stmt_height found.stmts ≤ found.height
  stmts_low _ _ g.none = omega arith
  stmts_low _ _ (g.one_more {ts} {us} {found} {last} d x) = omega (arith, of_joined stmt_height found.stmts last.stmt, stmts_low ts found d, block_stmt_low us last x)

-- ---- members

body_stmts_low : (ts : List Token) (found : Stmts) → c.IsStmts source_parts ts found → of_all stmt_height found.stmts ≤ found.height
body_stmts_low ts found d = repeated_low IsBlockStmt (λ x. x.stmt) stmt_height (λ x. x.height) block_stmt_low (λ x. x.stmts) (λ x. x.height) with_stmt (λ s x. refl) (λ s x. refl) no_stmts refl ts found d

body_low : (constructor : Bool) (ts : List Token) (body : Body) → IsBody source_parts constructor ts body → max (of_maybe args_height body.parent_args) (of_all stmt_height body.stmts) ≤ body.height
body_low constructor _ _ (c.block {tokens} {stmts} left right d) = omega (arith, body_stmts_low tokens stmts d)
body_low _ _ _ (c.with_super {before} {tokens} {args} {stmts} left super end right x d) = omega (arith, args_low before args x, body_stmts_low tokens stmts d)

result_low : (result : Option FoundType) → ((ty : FoundType) → result ≡ Some ty → type_height ty.ty ≤ ty.height) → of_maybe type_height (result_tree result) ≤ result_height result
result_low None h = omega arith
result_low (Some ty) h = h ty refl

-- a method, whose parts are at most so high
method_low : (constructor : Bool) (ts : List Token) (rest : Behind) → IsBehind source_parts constructor ts rest → (start : Span) (mods : FoundMods) (result : Option FoundType) (kind : Bool) (name : Ident)
    → mods_height mods.mods ≤ mods.height → of_maybe type_height (result_tree result) ≤ result_height result
    → of_all member_height (method_of start mods result kind name rest).members ≤ (method_of start mods result kind name rest).height
method_low constructor _ _ (c.behind {first} {second} {third} {params} {names} {body} p t b) start mods result kind name m r = omega (arith, m, r, params_low first params p, body_low constructor third body b)

fields_low : (decls : List LocalDecl) → of_all member_height (fields decls) ≡ of_all decl_height decls
fields_low [] = refl
fields_low (decl ∷ decls) = ap (λ n. max (decl_height decl) n) (fields_low decls)

member_low : (ts : List Token) (found : Members) → IsMember source_parts ts found → of_all member_height found.members ≤ found.height
member_low _ _ (c.some_fields {first} {second} {third} {mods} {ty} {decls} end m t d) =
    omega (arith, fields_low decls.decls, decls_low (shared mods ty) (shared_low member_words first second mods ty m t) third decls d)
member_low _ _ (c.method {first} {second} {third} {mods} {ty} {rest} name m t d) =
    method_low false third rest d (begins mods.first ty.ty.span) mods (Some ty) false name (mods_low member_words first mods m) (type_low second ty t)
member_low _ _ (c.void_method {first} {second} {mods} {rest} void name m d) = method_low false second rest d (begins mods.first void) mods None false name (mods_low member_words first mods m) (omega arith)
member_low _ _ (c.constructor_of {first} {second} {mods} {rest} name m d) = method_low true second rest d (begins mods.first name.span) mods None true name (mods_low member_words first mods m) (omega arith)

all_both : (xs ys : List Member) → of_all member_height (xs ++ ys) ≡ max (of_all member_height xs) (of_all member_height ys)
all_both [] ys = omega arith
all_both (x ∷ xs) ys = omega (arith, all_both xs ys)

members_low : (ts : List Token) (found : Members) → IsRepeated (IsMember source_parts) no_members with_members ts found → of_all member_height found.members ≤ found.height
members_low _ _ no_item = omega arith
members_low _ _ (one_more {before} {tokens} {items} {item} d x) = omega (arith, all_both items.members item.members, members_low before items d, member_low tokens item x)

-- ---- classes and sources

parent_low : (parent : Option Ident) → of_maybe name_height parent ≤ 1
parent_low None = omega arith
parent_low (Some name) = omega arith

class_low : (ts : List Token) (found : FoundClass) → IsClass source_parts ts found → class_height found.class ≤ found.height
class_low _ _ (c.class {first} {second} {third} {start} {parent} {members} span name left right w x d) = omega (arith, parent_low parent, members_low third members d)

pub source_low : (tokens : List Token) (found : FoundUnit) → IsSource tokens found → unit_height found.unit ≤ found.height
source_low _ _ (c.program {first} {second} {third} {name} {imports} {classes} p i d) =
    omega (arith, repeated_low (IsClass source_parts) (λ x. x.class) class_height (λ x. x.height) class_low (λ x. x.classes) (λ x. x.height) with_class (λ x y. refl) (λ x y. refl) no_classes refl third classes d)
