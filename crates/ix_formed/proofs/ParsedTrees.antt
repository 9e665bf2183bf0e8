-- The tree of a text's tokens is one that lowering rests on.
use Rattle.std.proofs.Common.{◌≡◌, ℕ, Bool, true, false, List, [], ◌∷◌, ◌++◌, Option, Some, None, refl}
use Rattle.std.specs.Prelude.{◌||◌, not}
use Rattle.ix_text.specs.declared.span.Span.{Span}
use Rattle.ix_lexer.specs.declared.token.Token.{Token}
use Rattle.ix_lexer.specs.declared.fixed.TheConstants.{CLASS, VOID, SEMICOLON, OPEN_BRACE, CLOSE_BRACE}
use Rattle.ix_tree.specs.declared.decl.ClassDecl.{ClassDecl}
use Rattle.ix_tree.specs.declared.decl.LocalDecl.{LocalDecl}
use Rattle.ix_tree.specs.declared.decl.Member.{Member}
use Rattle.ix_tree.specs.declared.decl.Unit.{Unit as Source}
use Rattle.ix_tree.specs.declared.expr.Expr.{Expr}
use Rattle.ix_tree.specs.Parts.{CanResolve}
use Rattle.ix_tree.specs.Placed.{Placed}
use Rattle.ix_grammar.specs.declared.classes.Behind.{Behind}
use Rattle.ix_grammar.specs.declared.classes.Body.{Body}
use Rattle.ix_grammar.specs.declared.classes.FoundClass.{FoundClass}
use Rattle.ix_grammar.specs.declared.classes.FoundUnit.{FoundUnit}
use Rattle.ix_grammar.specs.declared.classes.Members.{Members}
use Rattle.ix_grammar.specs.declared.classes.Stmts.{Stmts}
use Rattle.ix_grammar.specs.declared.declarations.FoundMods.{FoundMods}
use Rattle.ix_grammar.specs.declared.found.FoundType.{FoundType}
use Rattle.ix_grammar.specs.Patterns.{sign, name_token}
use Rattle.ix_grammar.specs.Lists.{IsRepeated, no_item, one_more}
use Rattle.ix_grammar.specs.Refusals.{HasTree}
use Rattle.ix_grammar.specs.DeclGrammar.{begins, shared}
use Rattle.ix_grammar.specs.StmtGrammar.{IsBlockStmt}
use Rattle.ix_grammar.specs.ClassGrammar as c
use Rattle.ix_grammar.specs.ClassGrammar.{IsBody, IsBehind, IsMember, IsClass, result_tree, method_of, fields, no_stmts, with_stmt, no_members, with_members, no_classes, with_class}
use Rattle.ix_grammar.specs.SourceGrammar.{source_parts, IsSource}
use Rattle.ix_formed.specs.Additions.{AllOf}
use Rattle.ix_formed.specs.Parsed.{IsParsed}
use Rattle.ix_formed.specs.Readable.{is_readable_expr, is_readable_stmt, is_readable_member}
use Rattle.ix_formed.specs.Written.{is_written_type, is_written_expr, is_written_stmt, is_written_decl, is_written_member, has_no_result, each_true, maybe_true}
use Rattle.ix_formed.proofs.NumberLists.{both_true, all_joined}
use Rattle.ix_formed.specs.IntTokens.{HaveInts}
use Rattle.ix_formed.proofs.ParsedExpressions.{IsFine, each_is, ints_split, args_found}
use Rattle.ix_formed.proofs.ParsedStatements.{IsFineDecl, IsFineStmt, repeated_found, type_found, decls_found, params_found, block_stmt_found}

-- ---- bodies

stmts_found : (ts : List Token) (found : Stmts) → c.IsStmts source_parts ts found → HaveInts ts → AllOf IsFineStmt found.stmts
stmts_found ts found r ints = repeated_found IsBlockStmt (λ x. x.stmt) IsFineStmt block_stmt_found (λ x. x.stmts) with_stmt (λ s x. refl) no_stmts refl ts found r ints

-- the arguments of the parent's constructor, and the statements
record IsFineBody (args : Option (List Expr)) (body : Body) : Type 0 where
  pub args_written : maybe_true (each_true is_written_expr) args ≡ true
  pub args_readable : maybe_true (each_true is_readable_expr) args ≡ true
  pub stmts : AllOf IsFineStmt body.stmts

body_found : (constructor : Bool) (ts : List Token) (body : Body) → IsBody source_parts constructor ts body → HaveInts ts → IsFineBody body.parent_args body
body_found constructor _ _ (c.block {tokens} {stmts} left right r) ints =
    record { args_written = refl; args_readable = refl; stmts = stmts_found tokens stmts r (ints_split tokens (sign CLOSE_BRACE right ∷ []) ints.1).0 }
body_found _ _ _ (c.with_super {before} {tokens} {args} {stmts} left super end right x r) ints =
    let i = ints_split before (sign SEMICOLON end ∷ (tokens ++ sign CLOSE_BRACE right ∷ [])) ints.1.1 in
    let all = args_found before args x i.0 in
    record {
      args_written = each_is is_written_expr IsFine (λ x f. f.written) args.items all;
      args_readable = each_is is_readable_expr IsFine (λ x f. f.readable) args.items all;
      stmts = stmts_found tokens stmts r (ints_split tokens (sign CLOSE_BRACE right ∷ []) i.1.1).0;
    }

-- ---- members

pub record IsFineMember (m : Member) : Type 0 where
  pub written : is_written_member m ≡ true
  pub readable : is_readable_member m ≡ true

method_found : (kind : Bool) (ts : List Token) (rest : Behind) → IsBehind source_parts kind ts rest → HaveInts ts → (start : Span) (mods : FoundMods) (result : Option FoundType) (constructor : Bool) (name : _)
    → (not constructor || has_no_result (result_tree result)) ≡ true → maybe_true is_written_type (result_tree result) ≡ true → AllOf IsFineMember (method_of start mods result constructor name rest).members
method_found kind _ _ (c.behind {first} {second} {third} {params} {names} {body} p t b) ints start mods result constructor name none ty =
    let i = ints_split first (second ++ third) ints in
    let all = params_found first params p i.0 in
    let x = body_found kind third body b (ints_split second third i.1).1 in (
      record {
        written = both_true (not constructor || has_no_result (result_tree result)) _ none
            (both_true (maybe_true is_written_type (result_tree result)) _ ty
            (both_true (each_true is_written_decl params.params) _ (each_is is_written_decl IsFineDecl (λ x f. f.written) params.params all)
            (both_true (maybe_true (each_true is_written_expr) body.parent_args) (each_true is_written_stmt body.stmts) x.args_written (each_is is_written_stmt IsFineStmt (λ x f. f.written) body.stmts x.stmts))));
        readable = both_true (maybe_true (each_true is_readable_expr) body.parent_args) (each_true is_readable_stmt body.stmts) x.args_readable (each_is is_readable_stmt IsFineStmt (λ x f. f.readable) body.stmts x.stmts);
      },
      tt,
    )

fields_found : (decls : List LocalDecl) → AllOf IsFineDecl decls → AllOf IsFineMember (fields decls)
fields_found [] all = tt
fields_found (decl ∷ decls) all = (record { written = all.0.written; readable = all.0.readable }, fields_found decls all.1)

member_found : (ts : List Token) (found : Members) → IsMember source_parts ts found → HaveInts ts → AllOf IsFineMember found.members
member_found _ _ (c.some_fields {first} {second} {third} {mods} {ty} {decls} end m t r) ints =
    let i = ints_split second (third ++ sign SEMICOLON end ∷ []) (ints_split first (second ++ (third ++ sign SEMICOLON end ∷ [])) ints).1 in
    fields_found decls.decls (decls_found (shared mods ty) (type_found second ty t) third decls r (ints_split third (sign SEMICOLON end ∷ []) i.1).0)
member_found _ _ (c.method {first} {second} {third} {mods} {ty} {rest} name m t r) ints =
    let i = ints_split second (name_token name ∷ third) (ints_split first (second ++ name_token name ∷ third) ints).1 in
    method_found false third rest r i.1.1 (begins mods.first ty.ty.span) mods (Some ty) false name refl (type_found second ty t)
member_found _ _ (c.void_method {first} {second} {mods} {rest} void name m r) ints =
    let i = ints_split first (sign VOID void ∷ name_token name ∷ second) ints in
    method_found false second rest r i.1.1.1 (begins mods.first void) mods None false name refl refl
member_found _ _ (c.constructor_of {first} {second} {mods} {rest} name m r) ints =
    let i = ints_split first (name_token name ∷ second) ints in
    method_found true second rest r i.1.1 (begins mods.first name.span) mods None true name refl refl

members_found : (ts : List Token) (found : Members) → IsRepeated (IsMember source_parts) no_members with_members ts found → HaveInts ts → AllOf IsFineMember found.members
members_found _ _ no_item ints = tt
members_found _ _ (one_more {before} {tokens} {items} {item} r x) ints =
    let i = ints_split before tokens ints in all_joined IsFineMember items.members item.members (members_found before items r i.0) (member_found tokens item x i.1)

-- ---- classes and sources

record IsFineClass (k : ClassDecl) : Type 0 where
  pub written : each_true is_written_member k.members ≡ true
  pub readable : each_true is_readable_member k.members ≡ true

class_found : (ts : List Token) (found : FoundClass) → IsClass source_parts ts found → HaveInts ts → IsFineClass found.class
class_found _ _ (c.class {first} {second} {third} {start} {parent} {members} span name left right w x r) ints =
    let i = ints_split first (sign CLASS span ∷ name_token name ∷ (second ++ sign OPEN_BRACE left ∷ (third ++ sign CLOSE_BRACE right ∷ []))) ints in
    let j = ints_split second (sign OPEN_BRACE left ∷ (third ++ sign CLOSE_BRACE right ∷ [])) i.1.1.1 in
    let all = members_found third members r (ints_split third (sign CLOSE_BRACE right ∷ []) j.1.1).0 in
    record {
      written = each_is is_written_member IsFineMember (λ m f. f.written) members.members all;
      readable = each_is is_readable_member IsFineMember (λ m f. f.readable) members.members all;
    }

source_found : (tokens : List Token) (found : FoundUnit) → IsSource tokens found → HaveInts tokens → AllOf IsFineClass found.unit.classes
source_found _ _ (c.program {first} {second} {third} {name} {imports} {classes} p i r) ints =
    repeated_found (IsClass source_parts) (λ x. x.class) IsFineClass class_found (λ x. x.classes) with_class (λ x y. refl) no_classes refl third classes r (ints_split second third (ints_split first (second ++ third) ints).1).1

-- A tree of tokens whose literals are ints, in which names can be looked up and which is placed in a text.
pub parsed : (tokens : List Token) (unit : Source) → HaveInts tokens → HasTree tokens unit → CanResolve unit → (end : ℕ) → Placed end unit → IsParsed unit
parsed tokens unit ints (height, low) can end placed =
    let all = source_found tokens (record { unit = unit; height = height }) low.0 ints in
    record {
      can = can;
      placed = (end, placed);
      written = each_is (λ (k : ClassDecl). each_true is_written_member k.members) IsFineClass (λ k f. f.written) unit.classes all;
      readable = each_is (λ (k : ClassDecl). each_true is_readable_member k.members) IsFineClass (λ k f. f.readable) unit.classes all;
    }
