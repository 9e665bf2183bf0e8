-- Members, classes and sources that are in the grammar are read, where there is room for them.
use Rattle.std.proofs.Common.{◌≡◌, ℕ, ◌<◌, ◌≤◌, ◌+◌, ◌-◌, ◌==◌, max, Bool, true, false, List, [], ◌∷◌, ◌++◌, length, Option, Some, None, Ok, refl, ap, subst, ◌∙◌, append_assoc, arith, length-append}
use Rattle.std.proofs.lemmas.Bool.{le-leb}
use Rattle.std.proofs.lemmas.List.{append-nil}
use Rattle.ix_text.specs.declared.span.Span.{Span}
use Rattle.ix_lexer.specs.declared.token.Token.{Token}
use Rattle.ix_lexer.specs.declared.fixed.TheConstants.{AT, CLASS, ELSE, FINAL, BOOLEAN, INT, IMPORT, PACKAGE, PUBLIC, STATIC, SUPER, VOID, OPEN_PAREN, OPEN_BRACE, CLOSE_BRACE, OPEN_BRACKET, SEMICOLON, DOT, TIMES}
use Rattle.ix_tree.specs.declared.annot.Ident.{Ident}
use Rattle.ix_tree.specs.declared.annot.BaseTree.TheVariants.{Named}
use Rattle.ix_grammar.specs.declared.classes.Behind.{Behind}
use Rattle.ix_grammar.specs.declared.classes.Body.{Body}
use Rattle.ix_grammar.specs.declared.classes.Classes.{Classes}
use Rattle.ix_grammar.specs.declared.classes.FoundClass.{FoundClass}
use Rattle.ix_grammar.specs.declared.classes.FoundUnit.{FoundUnit}
use Rattle.ix_grammar.specs.declared.classes.Members.{Members}
use Rattle.ix_grammar.specs.declared.classes.Stmts.{Stmts}
use Rattle.ix_grammar.specs.declared.declarations.FoundMods.{FoundMods}
use Rattle.ix_grammar.specs.declared.declarations.Params.{Params}
use Rattle.ix_grammar.specs.declared.found.Args.{Args}
use Rattle.ix_grammar.specs.declared.found.FoundDecls.{FoundDecls}
use Rattle.ix_grammar.specs.declared.found.FoundInit.{FoundInit}
use Rattle.ix_grammar.specs.declared.found.FoundStmt.{FoundStmt}
use Rattle.ix_grammar.specs.declared.found.FoundType.{FoundType}
use Rattle.ix_grammar_rules.specs.Rule.{pure, take, stop, loop, Turn, On, Done, Outcome, and_then, look, run}
use Rattle.ix_grammar.specs.Patterns.{sign, name_token, a_sign, a_name}
use Rattle.ix_grammar.specs.Lists.{IsRepeated, no_item, one_more}
use Rattle.ix_grammar_rules.specs.ListRules.{braces_of, placed}
use Rattle.ix_grammar.specs.TypeGrammar as types
use Rattle.ix_grammar.specs.TypeGrammar.{IsType, based}
use Rattle.ix_grammar_rules.specs.TypeRules.{type_rest, type_tree}
use Rattle.ix_grammar.specs.DeclGrammar.{earlier, begins, IsMods, IsDecls, member_words, shared, nothing_more}
use Rattle.ix_grammar_rules.specs.DeclRules.{mods, decls, params, throws}
use Rattle.ix_grammar.specs.ClassGrammar as grammar
use Rattle.ix_grammar.specs.ClassGrammar.{Parts, IsStmts, IsBody, IsBehind, IsMember, IsClassWord, IsClassWords, IsParent, IsClass, IsDotName, IsDotted, IsPackage, IsImported, IsImport, IsProgram, no_stmts, with_stmt, body_of, body_with, method_of, fields_of, no_members, with_members, class_of, no_classes, with_class, unit_of}
use Rattle.ix_grammar_rules.specs.ClassRules.{PartRules, statements, block, super_behind, body, behind, method, typed_member, named_member, member_behind, member, next_class_word, class_words, parent, class_behind, worded_class, next_class, next_dot, dotted, package_line, next_imported, imported, next_import, imports, program}
use Rattle.ix_grammar_rules.proofs.Runs.{loop_done}
use Rattle.ix_grammar_rules.proofs.ListsComplete.{repeated_reads, some_reads, braces_read, repeated_starts}
use Rattle.ix_grammar_rules.proofs.TypeComplete.{NoBracket, NoAt, type_reads, rest_reads, rest_starts, type_starts, over_base}
use Rattle.ix_grammar_rules.proofs.AnnotComplete.{NoParen}
use Rattle.ix_grammar_rules.proofs.DeclComplete.{AreWords, Parted, semicolon, mods_read, mods_before_type, mods_start, decls_headed, headed_reads, tall_decls, params_read, throws_read}

-- Initialisers, argument lists and statements that are in the grammar are read, where there is room for them.
pub record PartsComplete (parts : Parts) (rules : PartRules) : Type 0 where
  pub init : (ts : List Token) (found : FoundInit) → parts.IsInit ts found → (room : ℕ) → found.height ≤ room → (us : List Token) → Parted us → run (rules.init room) (ts ++ us) ≡ Ok (found, us)
  pub args : (ts : List Token) (found : Args) → parts.IsArgs ts found → (room : ℕ) → found.height ≤ room → (us : List Token) → run (rules.args room) (ts ++ us) ≡ Ok (found, us)
  pub statement : (ts : List Token) (found : FoundStmt) → parts.IsStmt ts found → (room : ℕ) → found.height ≤ room → (us : List Token) → look (a_sign ELSE) us ≡ None → run (rules.statement room) (ts ++ us) ≡ Ok (found, us)
  pub no_else : (ts : List Token) (found : FoundStmt) → parts.IsStmt ts found → (us : List Token) → look (a_sign ELSE) (ts ++ us) ≡ None
  pub no_brace : (ts : List Token) (found : FoundStmt) → parts.IsStmt ts found → (us : List Token) → look (a_sign CLOSE_BRACE) (ts ++ us) ≡ None
  pub no_super : (ts : List Token) (found : FoundStmt) → parts.IsStmt ts found → (us : List Token) → look (a_sign SUPER) (ts ++ us) ≡ None
  pub takes : (ts : List Token) (found : FoundStmt) → parts.IsStmt ts found → 0 < length ts

Any : List Token → Type 0
Any us = Unit {0}

-- ---- package and import lines

dot_turn : (u : Unit {0}) (ts : List Token) (x : Ident) → IsDotName ts x → Unit {0} → (us : List Token) → Any us → run (next_dot u) (ts ++ us) ≡ Ok (On tt, us)
unfolding next_dot run
dot_turn u _ _ (grammar.dot_name dot x) p us c = refl

dot_takes : (ts : List Token) (x : Ident) → IsDotName ts x → 0 < length ts
dot_takes _ _ (grammar.dot_name dot x) = omega arith

dot_done : (us : List Token) → look (a_sign DOT) us ≡ None → run (loop next_dot tt) us ≡ Ok (tt, us)
unfolding next_dot run
dot_done us h =
    let one : run (next_dot tt) us ≡ Ok (Done tt, us) = rw h refl in
    loop_done next_dot tt tt us us one

dotted_name : (name : Ident) (us : List Token) → run dotted (name_token name ∷ us) ≡ run (loop next_dot tt) us
unfolding dotted run
dotted_name name us = refl

dotted_reads : (ts : List Token) → IsDotted ts → (us : List Token) → look (a_sign DOT) us ≡ None → run dotted (ts ++ us) ≡ Ok (tt, us)
unfolding Any
dotted_reads _ (grammar.dotted {tokens} {names} name d) us h = dotted_name name (tokens ++ us)
    ∙ repeated_reads IsDotName tt nothing_more next_dot Any (λ x. Unit {0}) (λ s. Unit {0}) (λ ts x i us. tt) dot_takes (λ s x q. (tt, tt)) dot_turn tokens names d tt us tt
    ∙ dot_done us h

package_reads : (ts : List Token) (u : Unit {0}) → IsPackage ts u → (us : List Token) → look (a_sign PACKAGE) us ≡ None → run package_line (ts ++ us) ≡ Ok (tt, us)
unfolding package_line run
package_reads _ _ grammar.none us h = rw h refl
package_reads _ _ (grammar.package_line {tokens} span end d) us h = rw (append_assoc tokens (sign SEMICOLON end ∷ []) us, dotted_reads tokens d (sign SEMICOLON end ∷ us) refl) refl

import_dot : (u : Unit {0}) (ts : List Token) (x : Ident) → IsDotName ts x → Unit {0} → (us : List Token) → Any us → run (next_imported u) (ts ++ us) ≡ Ok (On tt, us)
unfolding next_imported run
import_dot u _ _ (grammar.dot_name dot x) p us c = refl

import_name : (name : Ident) (us : List Token) → run imported (name_token name ∷ us) ≡ run (loop next_imported tt) us
unfolding imported run
import_name name us = refl

import_dots : (ts : List Token) → IsDotted ts → (us : List Token) → run imported (ts ++ us) ≡ run (loop next_imported tt) us
unfolding Any
import_dots _ (grammar.dotted {tokens} {names} name d) us = import_name name (tokens ++ us)
    ∙ repeated_reads IsDotName tt nothing_more next_imported Any (λ x. Unit {0}) (λ s. Unit {0}) (λ ts x i us. tt) dot_takes (λ s x q. (tt, tt)) import_dot tokens names d tt us tt

import_one : (end : Span) (us : List Token) → run (loop next_imported tt) (sign SEMICOLON end ∷ us) ≡ Ok (tt, us)
unfolding next_imported run
import_one end us =
    let one : run (next_imported tt) (sign SEMICOLON end ∷ us) ≡ Ok (Done tt, us) = refl in
    loop_done next_imported tt tt (sign SEMICOLON end ∷ us) us one

import_each : (dot times end : Span) (us : List Token) → run (loop next_imported tt) (sign DOT dot ∷ sign TIMES times ∷ sign SEMICOLON end ∷ us) ≡ Ok (tt, us)
unfolding next_imported run
import_each dot times end us =
    let one : run (next_imported tt) (sign DOT dot ∷ sign TIMES times ∷ sign SEMICOLON end ∷ us) ≡ Ok (Done tt, us) = refl in
    loop_done next_imported tt tt (sign DOT dot ∷ sign TIMES times ∷ sign SEMICOLON end ∷ us) us one

imported_reads : (ts : List Token) → IsImported ts → (us : List Token) → run imported (ts ++ us) ≡ Ok (tt, us)
imported_reads _ (grammar.one {tokens} end d) us = ap (run imported) (append_assoc tokens (sign SEMICOLON end ∷ []) us) ∙ import_dots tokens d (sign SEMICOLON end ∷ us) ∙ import_one end us
imported_reads _ (grammar.each {tokens} dot times end d) us = ap (run imported) (append_assoc tokens (sign DOT dot ∷ sign TIMES times ∷ sign SEMICOLON end ∷ []) us)
    ∙ import_dots tokens d (sign DOT dot ∷ sign TIMES times ∷ sign SEMICOLON end ∷ us) ∙ import_each dot times end us

dotted_starts : (n : ℕ) (ts : List Token) → IsDotted ts → (us : List Token) → look (a_sign n) (ts ++ us) ≡ None
dotted_starts n _ (grammar.dotted name d) us = refl

imported_starts : (n : ℕ) (ts : List Token) → IsImported ts → (us : List Token) → look (a_sign n) (ts ++ us) ≡ None
imported_starts n _ (grammar.one {tokens} end d) us = ap (look (a_sign n)) (append_assoc tokens (sign SEMICOLON end ∷ []) us) ∙ dotted_starts n tokens d (sign SEMICOLON end ∷ us)
imported_starts n _ (grammar.each {tokens} dot times end d) us = ap (look (a_sign n)) (append_assoc tokens (sign DOT dot ∷ sign TIMES times ∷ sign SEMICOLON end ∷ []) us)
    ∙ dotted_starts n tokens d (sign DOT dot ∷ sign TIMES times ∷ sign SEMICOLON end ∷ us)

import_turn : (u : Unit {0}) (ts : List Token) (v : Unit {0}) → IsImport ts v → Unit {0} → (us : List Token) → Any us → run (next_import u) (ts ++ us) ≡ Ok (On tt, us)
unfolding next_import run
import_turn u _ _ (grammar.plain {tokens} span d) p us c = rw (imported_starts STATIC tokens d us, imported_reads tokens d us) refl
import_turn u _ _ (grammar.static {tokens} span static d) p us c = rw (imported_reads tokens d us) refl

import_takes : (ts : List Token) (v : Unit {0}) → IsImport ts v → 0 < length ts
import_takes _ _ (grammar.plain span d) = omega arith
import_takes _ _ (grammar.static span static d) = omega arith

import_starts : (n : ℕ) → (IMPORT == n) ≡ false → (ts : List Token) (v : Unit {0}) → IsImport ts v → (us : List Token) → look (a_sign n) (ts ++ us) ≡ None
import_starts n e _ _ (grammar.plain span d) us = rw e refl
import_starts n e _ _ (grammar.static span static d) us = rw e refl

imports_done : (us : List Token) → look (a_sign IMPORT) us ≡ None → run (loop next_import tt) us ≡ Ok (tt, us)
unfolding next_import run
imports_done us h =
    let one : run (next_import tt) us ≡ Ok (Done tt, us) = rw h refl in
    loop_done next_import tt tt us us one

imports_read : (ts : List Token) (u : Unit {0}) → IsRepeated IsImport tt nothing_more ts u → (us : List Token) → look (a_sign IMPORT) us ≡ None → run imports (ts ++ us) ≡ Ok (tt, us)
unfolding imports Any
imports_read ts u d us h = repeated_reads IsImport tt nothing_more next_import Any (λ x. Unit {0}) (λ s. Unit {0}) (λ ts x i us. tt) import_takes (λ s x q. (tt, tt)) import_turn ts u d tt us tt ∙ imports_done us h

-- ---- what a class extends

parent_reads : (ts : List Token) (found : Option Ident) → IsParent ts found → (brace : Span) (us : List Token) → run parent (ts ++ sign OPEN_BRACE brace ∷ us) ≡ Ok (found, us)
unfolding parent run
parent_reads _ _ grammar.none brace us = refl
parent_reads _ _ (grammar.extends span name) brace us = refl

member_are : AreWords member_words
member_are = record { paren = refl; at = refl; int = refl; boolean = refl }

module _ (parts : Parts) (rules : PartRules) (complete : PartsComplete parts rules) where
  -- ---- bodies

  abbrev NoElse : List Token → Type 0
  NoElse us = look (a_sign ELSE) us ≡ None

  statements_read : (left : ℕ) (ts : List Token) (stmts : Stmts) → IsStmts parts ts stmts → stmts.height ≤ left → (right : Span) (us : List Token) → run (statements rules left) (ts ++ sign CLOSE_BRACE right ∷ us) ≡ Ok (placed stmts right, us)
  unfolding statements
  statements_read left ts stmts d le right us = braces_read parts.IsStmt no_stmts with_stmt (rules.statement left) NoElse (λ s. s.height ≤ left) (λ s. s.height ≤ left)
      (λ right us. refl) complete.no_else complete.no_brace complete.takes (λ s x q. (omega (arith, q), omega (arith, q))) (λ ts x i p us c. complete.statement ts x i left p us c) ts stmts d le right us

  block_reads : (left : ℕ) (ts : List Token) (stmts : Stmts) → IsStmts parts ts stmts → stmts.height ≤ left → (right : Span) (us : List Token) → run (block rules left) (ts ++ sign CLOSE_BRACE right ∷ us) ≡ Ok (body_of stmts right, us)
  unfolding block run
  block_reads left ts stmts d le right us = rw (statements_read left ts stmts d le right us) refl

  no_super : (ts : List Token) (stmts : Stmts) → IsStmts parts ts stmts → (right : Span) (us : List Token) → look (a_sign SUPER) (ts ++ sign CLOSE_BRACE right ∷ us) ≡ None
  no_super ts stmts d right us = repeated_starts parts.IsStmt no_stmts with_stmt (λ us. look (a_sign SUPER) us ≡ None) complete.no_super ts stmts d (sign CLOSE_BRACE right ∷ us) refl

  plain_body : (left : ℕ) (constructor : Bool) (ts : List Token) (stmts : Stmts) → IsStmts parts ts stmts → stmts.height ≤ left → (right : Span) (us : List Token) → run (body rules left constructor) (ts ++ sign CLOSE_BRACE right ∷ us) ≡ Ok (body_of stmts right, us)
  unfolding body run
  plain_body left true ts stmts d le right us = rw (no_super ts stmts d right us) (block_reads left ts stmts d le right us)
  plain_body left false ts stmts d le right us = block_reads left ts stmts d le right us

  super_body : (left : ℕ) (super end right : Span) (before ts us : List Token) (args : Args) (stmts : Stmts) → parts.IsArgs before args → args.height ≤ left → IsStmts parts ts stmts → stmts.height ≤ left
      → run (body rules left true) (sign SUPER super ∷ (before ++ sign SEMICOLON end ∷ (ts ++ sign CLOSE_BRACE right ∷ us))) ≡ Ok (body_with args stmts right, us)
  unfolding body super_behind run
  super_body left super end right before ts us args stmts a la d ls = rw (complete.args before args a left la (sign SEMICOLON end ∷ (ts ++ sign CLOSE_BRACE right ∷ us)), statements_read left ts stmts d ls right us) refl

  -- A body as its opening brace and what is read behind it.
  record Braced (left : ℕ) (constructor : Bool) (ts : List Token) (found : Body) (us : List Token) : Type 0 where
    brace : Span
    later : List Token
    is : ts ≡ sign OPEN_BRACE brace ∷ later
    reads : run (body rules left constructor) (later ++ us) ≡ Ok (found, us)

  body_reads : (left : ℕ) (constructor : Bool) (ts : List Token) (found : Body) → IsBody parts constructor ts found → found.height ≤ left → (us : List Token) → Braced left constructor ts found us
  body_reads left constructor _ _ (grammar.block {tokens} {stmts} brace right d) le us = record {
    brace = brace;
    later = tokens ++ sign CLOSE_BRACE right ∷ [];
    is = refl;
    reads = ap (run (body rules left constructor)) (append_assoc tokens (sign CLOSE_BRACE right ∷ []) us) ∙ plain_body left constructor tokens stmts d le right us;
  }
  body_reads left _ _ _ (grammar.with_super {before} {tokens} {args} {stmts} brace super end right a d) le us =
      let end_tokens : List Token = tokens ++ sign CLOSE_BRACE right ∷ [] in
      let same : (before ++ sign SEMICOLON end ∷ end_tokens) ++ us ≡ before ++ sign SEMICOLON end ∷ (tokens ++ sign CLOSE_BRACE right ∷ us) =
      append_assoc before (sign SEMICOLON end ∷ end_tokens) us ∙ ap (λ y. before ++ sign SEMICOLON end ∷ y) (append_assoc tokens (sign CLOSE_BRACE right ∷ []) us) in
      record {
        brace = brace;
        later = sign SUPER super ∷ (before ++ sign SEMICOLON end ∷ end_tokens);
        is = refl;
        reads = ap (λ y. run (body rules left true) (sign SUPER super ∷ y)) same ∙ super_body left super end right before tokens us args stmts a (omega (arith, le)) d (omega (arith, le));
      }

  -- ---- what stands behind a method's name

  record Called (left : ℕ) (constructor : Bool) (ts : List Token) (rest : Behind) (us : List Token) : Type 0 where
    opening : Span
    later : List Token
    is : ts ≡ sign OPEN_PAREN opening ∷ later
    reads : run (behind rules left constructor) (later ++ us) ≡ Ok (rest, us)

  behind_parts : (left : ℕ) (constructor : Bool) (first second third us vs : List Token) (params_found : Params) (found : Body) (brace : Span)
      → run (params (left - 1)) (first ++ (second ++ sign OPEN_BRACE brace ∷ (third ++ us))) ≡ Ok (params_found, second ++ sign OPEN_BRACE brace ∷ (third ++ us))
      → run throws (second ++ sign OPEN_BRACE brace ∷ (third ++ us)) ≡ Ok (tt, sign OPEN_BRACE brace ∷ (third ++ us)) → run (body rules (left - 1) constructor) (third ++ us) ≡ Ok (found, us)
      → run (behind rules left constructor) (first ++ (second ++ sign OPEN_BRACE brace ∷ (third ++ us))) ≡ Ok (record { params = params_found; body = found }, us)
  unfolding behind run
  behind_parts left constructor first second third us vs params_found found brace p t b = rw (p, t, b) refl

  behind_reads : (left : ℕ) (constructor : Bool) (ts : List Token) (rest : Behind) → IsBehind parts constructor ts rest → rest.params.height ≤ left - 1 → rest.body.height ≤ left - 1 → (us : List Token) → Called left constructor ts rest us
  behind_reads left constructor _ _ (grammar.behind {first} {second} {third} {params = found} {names} {body = inside} p t b) lp lb us =
      let braced = body_reads (left - 1) constructor third inside b lb us in
      let opened = params_read (left - 1) first found p lp (second ++ sign OPEN_BRACE braced.brace ∷ (braced.later ++ us)) in
      let same : (opened.later ++ (second ++ third)) ++ us ≡ opened.later ++ (second ++ sign OPEN_BRACE braced.brace ∷ (braced.later ++ us)) =
      append_assoc opened.later (second ++ third) us ∙ ap (λ y. opened.later ++ y) (append_assoc second third us ∙ ap (λ y. second ++ (y ++ us)) braced.is) in
      record {
        opening = opened.opening;
        later = opened.later ++ (second ++ third);
        is = ap (λ y. y ++ (second ++ third)) opened.is;
        reads = ap (run (behind rules left constructor)) same
            ∙ behind_parts left constructor opened.later second braced.later us us found inside braced.brace opened.reads (throws_read second names t braced.brace (braced.later ++ us)) braced.reads;
      }

  -- ---- members

  method_called : (left : ℕ) (start : Span) (found : FoundMods) (result : Option FoundType) (constructor : Bool) (name : Ident) (ts us : List Token) (rest : Behind) → run (behind rules left constructor) ts ≡ Ok (rest, us)
      → run (method rules left start found result constructor name) ts ≡ Ok (method_of start found result constructor name rest, us)
  unfolding method run
  method_called left start found result constructor name ts us rest h = rw h refl

  typed_method : (left : ℕ) (found : FoundMods) (ty : FoundType) (name : Ident) (opening : Span) (ts : List Token) → 1 + ty.height ≤ left
      → run (typed_member rules left found ty) (name_token name ∷ sign OPEN_PAREN opening ∷ ts) ≡ run (method rules left (begins found.first ty.ty.span) found (Some ty) false name) ts
  unfolding typed_member run
  typed_method left found ty name opening ts le = rw (le-leb (1 + ty.height) left le) refl

  typed_fields : (left : ℕ) (found : FoundMods) (ty : FoundType) (name : Ident) (ts us : List Token) (end : Span) (ds : FoundDecls) → 1 + ty.height ≤ left → NoParen ts
      → run (decls rules.init left (shared found ty) name) ts ≡ Ok (ds, sign SEMICOLON end ∷ us) → run (typed_member rules left found ty) (name_token name ∷ ts) ≡ Ok (fields_of ds, us)
  unfolding typed_member run
  typed_fields left found ty name ts us end ds le h k = rw (le-leb (1 + ty.height) left le, h, k) refl

  tree_member : (left : ℕ) (found : FoundMods) (ts vs : List Token) (ty : FoundType) → look (a_sign VOID) ts ≡ None → look a_name ts ≡ None → run (type_tree (left - 1)) ts ≡ Ok (ty, vs)
      → run (member_behind rules left found) ts ≡ run (typed_member rules left found ty) vs
  unfolding member_behind run
  tree_member left found ts vs ty h k r = rw (h, k, r) refl

  name_member : (left : ℕ) (found : FoundMods) (name : Ident) (ts vs : List Token) (ty : FoundType) → 2 ≤ left → NoParen ts → run (type_rest (left - 1) (based (Named name) name.span)) ts ≡ Ok (ty, vs)
      → run (member_behind rules left found) (name_token name ∷ ts) ≡ run (typed_member rules left found ty) vs
  unfolding member_behind named_member run
  name_member left found name ts vs ty le h r = rw (le-leb 2 left le, h, r) refl

  type_member : (left : ℕ) (found : FoundMods) (ts : List Token) (ty : FoundType) → IsType ts ty → 1 + ty.height ≤ left → (us : List Token) → NoBracket us → NoAt us → NoParen us
      → run (member_behind rules left found) (ts ++ us) ≡ run (typed_member rules left found ty) us
  type_member left found _ _ (types.type {tokens} {ty} (types.int span) d) le us h k c =
      tree_member left found _ us ty refl refl (type_reads (left - 1) (sign INT span ∷ tokens) ty (types.type (types.int span) d) (omega (arith, le)) us h k)
  type_member left found _ _ (types.type {tokens} {ty} (types.boolean span) d) le us h k c =
      tree_member left found _ us ty refl refl (type_reads (left - 1) (sign BOOLEAN span ∷ tokens) ty (types.type (types.boolean span) d) (omega (arith, le)) us h k)
  type_member left found _ _ (types.type {tokens} {ty} (types.named name) d) le us h k c =
      name_member left found name (tokens ++ us) us ty (omega (arith, le, over_base (based (Named name) name.span) tokens ty d)) (rest_starts OPEN_PAREN refl refl (based (Named name) name.span) tokens ty d us c)
      (rest_reads (left - 1) (based (Named name) name.span) tokens ty d (omega (arith, le)) us h k)

  void_member : (left : ℕ) (found : FoundMods) (void : Span) (name : Ident) (opening : Span) (ts : List Token) → 2 ≤ left
      → run (member_behind rules left found) (sign VOID void ∷ name_token name ∷ sign OPEN_PAREN opening ∷ ts) ≡ run (method rules left (begins found.first void) found None false name) ts
  unfolding member_behind run
  void_member left found void name opening ts le = rw (le-leb 2 left le) refl

  constructor_member : (left : ℕ) (found : FoundMods) (name : Ident) (opening : Span) (ts : List Token) → 2 ≤ left
      → run (member_behind rules left found) (name_token name ∷ sign OPEN_PAREN opening ∷ ts) ≡ run (method rules left (begins found.first name.span) found None true name) ts
  unfolding member_behind named_member run
  constructor_member left found name opening ts le = rw (le-leb 2 left le) refl

  behind_mods : (left : ℕ) (ts us : List Token) (found : FoundMods) → run (mods member_words (left - 1)) ts ≡ Ok (found, us) → run (member rules left) ts ≡ run (member_behind rules left found) us
  unfolding member run
  behind_mods left ts us found h = rw h refl

  four : (first second third us : List Token) (t : Token) → (first ++ (second ++ (third ++ t ∷ []))) ++ us ≡ first ++ (second ++ (third ++ t ∷ us))
  four first second third us t = append_assoc first (second ++ (third ++ t ∷ [])) us ∙ ap (λ y. first ++ y) (append_assoc second (third ++ t ∷ []) us ∙ ap (λ y. second ++ y) (append_assoc third (t ∷ []) us))

  fields_read : (left : ℕ) (first second third : List Token) (found : FoundMods) (ty : FoundType) (ds : FoundDecls) (end : Span) → IsMods member_words first found → IsType second ty → IsDecls parts.IsInit (shared found ty) third ds
      → ds.height ≤ left → (us : List Token) → run (member rules left) (first ++ (second ++ (third ++ sign SEMICOLON end ∷ us))) ≡ Ok (fields_of ds, us)
  fields_read left first second third found ty ds end m t d le us =
      let tall = tall_decls parts.IsInit rules.init complete.init left (shared found ty) third ds d in
      let room : 1 ≤ left - 1 = omega (arith, le, tall) in
      let mods_fit : found.height ≤ left - 1 = omega (arith, le, tall) in
      let type_fits : 1 + ty.height ≤ left = omega (arith, le, tall) in
      let behind_it : List Token = third ++ sign SEMICOLON end ∷ us in
      let h = decls_headed parts.IsInit rules.init complete.init left (shared found ty) third ds d (sign SEMICOLON end ∷ us) (semicolon end us) in
      let starts : behind_it ≡ name_token h.name ∷ (h.later ++ sign SEMICOLON end ∷ us) = ap (λ y. y ++ sign SEMICOLON end ∷ us) h.is in
      behind_mods left (first ++ (second ++ behind_it)) (second ++ behind_it) found (mods_before_type member_words member_are (left - 1) room first found m mods_fit second ty t behind_it)
      ∙ type_member left found second ty t type_fits behind_it (ap (look (a_sign OPEN_BRACKET)) starts) (ap (look (a_sign AT)) starts) (ap (look (a_sign OPEN_PAREN)) starts)
      ∙ ap (run (typed_member rules left found ty)) starts
      ∙ typed_fields left found ty h.name (h.later ++ sign SEMICOLON end ∷ us) us end ds type_fits h.no_paren (headed_reads parts.IsInit rules.init complete.init left (shared found ty) third ds d le end us h)

  method_reads : (left : ℕ) (first second third : List Token) (found : FoundMods) (ty : FoundType) (rest : Behind) (name : Ident) → IsMods member_words first found → IsType second ty → IsBehind parts false third rest
      → 1 + max (max (max found.height ty.height) 1) (max rest.params.height rest.body.height) ≤ left → (us : List Token)
      → run (member rules left) (first ++ (second ++ name_token name ∷ (third ++ us))) ≡ Ok (method_of (begins found.first ty.ty.span) found (Some ty) false name rest, us)
  method_reads left first second third found ty rest name m t d le us =
      let called = behind_reads left false third rest d (omega (arith, le)) (omega (arith, le)) us in
      let type_fits : 1 + ty.height ≤ left = omega (arith, le) in
      behind_mods left (first ++ (second ++ name_token name ∷ (third ++ us))) (second ++ name_token name ∷ (third ++ us)) found
      (mods_before_type member_words member_are (left - 1) (omega (arith, le)) first found m (omega (arith, le)) second ty t (name_token name ∷ (third ++ us)))
      ∙ type_member left found second ty t type_fits (name_token name ∷ (third ++ us)) refl refl refl
      ∙ ap (λ y. run (typed_member rules left found ty) (name_token name ∷ (y ++ us))) called.is
      ∙ typed_method left found ty name called.opening (called.later ++ us) type_fits
      ∙ method_called left (begins found.first ty.ty.span) found (Some ty) false name (called.later ++ us) us rest called.reads

  void_reads : (left : ℕ) (first third : List Token) (found : FoundMods) (rest : Behind) (void : Span) (name : Ident) → IsMods member_words first found → IsBehind parts false third rest
      → 1 + max (max (max found.height 0) 1) (max rest.params.height rest.body.height) ≤ left → (us : List Token)
      → run (member rules left) (first ++ sign VOID void ∷ name_token name ∷ (third ++ us)) ≡ Ok (method_of (begins found.first void) found None false name rest, us)
  void_reads left first third found rest void name m d le us =
      let called = behind_reads left false third rest d (omega (arith, le)) (omega (arith, le)) us in
      behind_mods left (first ++ sign VOID void ∷ name_token name ∷ (third ++ us)) (sign VOID void ∷ name_token name ∷ (third ++ us)) found
      (mods_read member_words member_are (left - 1) (omega (arith, le)) first found m (omega (arith, le)) (sign VOID void ∷ name_token name ∷ (third ++ us)) refl refl refl)
      ∙ ap (λ y. run (member_behind rules left found) (sign VOID void ∷ name_token name ∷ (y ++ us))) called.is
      ∙ void_member left found void name called.opening (called.later ++ us) (omega (arith, le))
      ∙ method_called left (begins found.first void) found None false name (called.later ++ us) us rest called.reads

  constructor_reads : (left : ℕ) (first third : List Token) (found : FoundMods) (rest : Behind) (name : Ident) → IsMods member_words first found → IsBehind parts true third rest
      → 1 + max (max (max found.height 0) 1) (max rest.params.height rest.body.height) ≤ left → (us : List Token)
      → run (member rules left) (first ++ name_token name ∷ (third ++ us)) ≡ Ok (method_of (begins found.first name.span) found None true name rest, us)
  constructor_reads left first third found rest name m d le us =
      let called = behind_reads left true third rest d (omega (arith, le)) (omega (arith, le)) us in
      behind_mods left (first ++ name_token name ∷ (third ++ us)) (name_token name ∷ (third ++ us)) found
      (mods_read member_words member_are (left - 1) (omega (arith, le)) first found m (omega (arith, le)) (name_token name ∷ (third ++ us)) refl refl refl)
      ∙ ap (λ y. run (member_behind rules left found) (name_token name ∷ (y ++ us))) called.is
      ∙ constructor_member left found name called.opening (called.later ++ us) (omega (arith, le))
      ∙ method_called left (begins found.first name.span) found None true name (called.later ++ us) us rest called.reads

  regroup : (first second third us : List Token) (t : Token) → (first ++ (second ++ t ∷ third)) ++ us ≡ first ++ (second ++ t ∷ (third ++ us))
  regroup first second third us t = append_assoc first (second ++ t ∷ third) us ∙ ap (λ y. first ++ y) (append_assoc second (t ∷ third) us)

  pub member_reads : (left : ℕ) (ts : List Token) (found : Members) → IsMember parts ts found → found.height ≤ left → (us : List Token) → run (member rules left) (ts ++ us) ≡ Ok (found, us)
  member_reads left _ _ (grammar.some_fields {first} {second} {third} {mods = found} {ty} {decls = ds} end m t d) le us =
      ap (run (member rules left)) (four first second third us (sign SEMICOLON end)) ∙ fields_read left first second third found ty ds end m t d le us
  member_reads left _ _ (grammar.method {first} {second} {third} {mods = found} {ty} {rest} name m t d) le us =
      ap (run (member rules left)) (regroup first second third us (name_token name)) ∙ method_reads left first second third found ty rest name m t d le us
  member_reads left _ _ (grammar.void_method {first} {second = third} {mods = found} {rest} void name m d) le us =
      ap (run (member rules left)) (append_assoc first (sign VOID void ∷ name_token name ∷ third) us) ∙ void_reads left first third found rest void name m d le us
  member_reads left _ _ (grammar.constructor_of {first} {second = third} {mods = found} {rest} name m d) le us =
      ap (run (member rules left)) (append_assoc first (name_token name ∷ third) us) ∙ constructor_reads left first third found rest name m d le us

  member_starts : (ts : List Token) (found : Members) → IsMember parts ts found → (us : List Token) → look (a_sign CLOSE_BRACE) (ts ++ us) ≡ None
  member_starts _ _ (grammar.some_fields {first} {second} {third} {mods = found} {ty} {decls = ds} end m t d) us =
      ap (look (a_sign CLOSE_BRACE)) (four first second third us (sign SEMICOLON end))
      ∙ mods_start member_words CLOSE_BRACE refl refl first found m (second ++ (third ++ sign SEMICOLON end ∷ us)) (type_starts CLOSE_BRACE refl refl second ty t (third ++ sign SEMICOLON end ∷ us))
  member_starts _ _ (grammar.method {first} {second} {third} {mods = found} {ty} {rest} name m t d) us =
      ap (look (a_sign CLOSE_BRACE)) (regroup first second third us (name_token name))
      ∙ mods_start member_words CLOSE_BRACE refl refl first found m (second ++ name_token name ∷ (third ++ us)) (type_starts CLOSE_BRACE refl refl second ty t (name_token name ∷ (third ++ us)))
  member_starts _ _ (grammar.void_method {first} {second = third} {mods = found} {rest} void name m d) us =
      ap (look (a_sign CLOSE_BRACE)) (append_assoc first (sign VOID void ∷ name_token name ∷ third) us) ∙ mods_start member_words CLOSE_BRACE refl refl first found m (sign VOID void ∷ name_token name ∷ (third ++ us)) refl
  member_starts _ _ (grammar.constructor_of {first} {second = third} {mods = found} {rest} name m d) us =
      ap (look (a_sign CLOSE_BRACE)) (append_assoc first (name_token name ∷ third) us) ∙ mods_start member_words CLOSE_BRACE refl refl first found m (name_token name ∷ (third ++ us)) refl

  member_takes : (ts : List Token) (found : Members) → IsMember parts ts found → 0 < length ts
  member_takes _ _ (grammar.some_fields {first} {second} {third} end m t d) = omega (arith, length-append first (second ++ (third ++ sign SEMICOLON end ∷ [])), length-append second (third ++ sign SEMICOLON end ∷ []), length-append third (sign SEMICOLON end ∷ []))
  member_takes _ _ (grammar.method {first} {second} {third} name m t d) = omega (arith, length-append first (second ++ name_token name ∷ third), length-append second (name_token name ∷ third))
  member_takes _ _ (grammar.void_method {first} {second = third} void name m d) = omega (arith, length-append first (sign VOID void ∷ name_token name ∷ third))
  member_takes _ _ (grammar.constructor_of {first} {second = third} name m d) = omega (arith, length-append first (name_token name ∷ third))

  -- ---- classes

  class_parts : (left : ℕ) (start : Span) (name : Ident) (ts vs us : List Token) (above : Option Ident) (found : Members) (right : Span)
      → run parent ts ≡ Ok (above, vs) → run (braces_of (member rules (left - 1)) with_members no_members) vs ≡ Ok (placed found right, us)
      → run (class_behind rules left start) (name_token name ∷ ts) ≡ Ok (class_of start name above found right, us)
  unfolding class_behind run
  class_parts left start name ts vs us above found right p b = rw (p, b) refl

  class_reads : (left : ℕ) (start : Span) (name : Ident) (second third : List Token) (above : Option Ident) (found : Members) (brace right : Span) → IsParent second above → IsRepeated (IsMember parts) no_members with_members third found
      → found.height ≤ left - 1 → (us : List Token) → run (class_behind rules left start) (name_token name ∷ (second ++ sign OPEN_BRACE brace ∷ (third ++ sign CLOSE_BRACE right ∷ us))) ≡ Ok (class_of start name above found right, us)
  unfolding Any
  class_reads left start name second third above found brace right p d le us =
      class_parts left start name (second ++ sign OPEN_BRACE brace ∷ (third ++ sign CLOSE_BRACE right ∷ us)) (third ++ sign CLOSE_BRACE right ∷ us) us above found right
      (parent_reads second above p brace (third ++ sign CLOSE_BRACE right ∷ us))
      (braces_read (IsMember parts) no_members with_members (member rules (left - 1)) Any (λ m. m.height ≤ left - 1) (λ m. m.height ≤ left - 1) (λ right us. tt) (λ ts x i us. tt) member_starts member_takes
      (λ s x q. (omega (arith, q), omega (arith, q))) (λ ts x i p us c. member_reads (left - 1) ts x i p us) third found d le right us)

  -- behind the words before a class
  module _ (left : ℕ) (classes : Classes) (room : 2 ≤ left) where
    worded : Outcome (Option Span) → Outcome (Turn Classes Classes)
    worded o = and_then (and_then o (λ start. run (take (a_sign CLASS) true (λ span. class_behind rules left (begins start span)) stop))) (λ found. run (pure (On (with_class classes found))))

    first_word : (ts : List Token) (span : Span) → IsClassWord ts span → Unit {0} → (us : List Token) → Any us → run (next_class rules left classes) (ts ++ us) ≡ worded (run (loop next_class_word (Some span)) us)
    unfolding next_class worded_class class_words worded run
    first_word _ _ (grammar.public span) p us c = rw (le-leb 2 left room) refl
    first_word _ _ (grammar.final span) p us c = rw (le-leb 2 left room) refl

    word_turn : (first : Option Span) (ts : List Token) (span : Span) → IsClassWord ts span → Unit {0} → (us : List Token) → Any us → run (next_class_word first) (ts ++ us) ≡ Ok (On (earlier first span), us)
    unfolding next_class_word run
    word_turn first _ _ (grammar.public span) p us c = refl
    word_turn first _ _ (grammar.final span) p us c = refl

    word_takes : (ts : List Token) (span : Span) → IsClassWord ts span → 0 < length ts
    word_takes _ _ (grammar.public span) = omega arith
    word_takes _ _ (grammar.final span) = omega arith

    words_done : (first : Option Span) (span : Span) (us : List Token) → run (loop next_class_word first) (sign CLASS span ∷ us) ≡ Ok (first, sign CLASS span ∷ us)
    unfolding next_class_word run
    words_done first span us =
        let one : run (next_class_word first) (sign CLASS span ∷ us) ≡ Ok (Done first, sign CLASS span ∷ us) = refl in
        loop_done next_class_word first first (sign CLASS span ∷ us) (sign CLASS span ∷ us) one

    worded_found : (start : Option Span) (span : Span) (ts us : List Token) (found : FoundClass) → run (class_behind rules left (begins start span)) ts ≡ Ok (found, us)
        → worded (run (loop next_class_word start) (sign CLASS span ∷ ts)) ≡ Ok (On (with_class classes found), us)
    unfolding worded run
    worded_found start span ts us found h = rw (words_done start span ts, h) refl

    plain_found : (span : Span) (ts us : List Token) (found : FoundClass) → run (class_behind rules left span) ts ≡ Ok (found, us) → run (next_class rules left classes) (sign CLASS span ∷ ts) ≡ Ok (On (with_class classes found), us)
    unfolding next_class run
    plain_found span ts us found h = rw (le-leb 2 left room, h) refl

    class_after : (first : List Token) (start : Option Span) → IsClassWords first start → (span : Span) (ts us : List Token) (found : FoundClass) → run (class_behind rules left (begins start span)) ts ≡ Ok (found, us)
        → run (next_class rules left classes) (first ++ sign CLASS span ∷ ts) ≡ Ok (On (with_class classes found), us)
    unfolding Any
    class_after _ _ no_item span ts us found h = plain_found span ts us found h
    class_after _ _ (one_more {before} {tokens} {items = start} {item = word} d i) span ts us found h =
        some_reads IsClassWord None earlier next_class_word Any (λ w. Unit {0}) (λ s. Unit {0}) (λ ts x i us. tt) word_takes (λ s x q. (tt, tt)) word_turn
        (run (next_class rules left classes)) worded first_word before start d tokens word i tt (sign CLASS span ∷ ts) tt
        ∙ worded_found (earlier start word) span ts us found h

  five : (first second third us : List Token) (a b c d : Token) → (first ++ a ∷ b ∷ (second ++ c ∷ (third ++ d ∷ []))) ++ us ≡ first ++ a ∷ b ∷ (second ++ c ∷ (third ++ d ∷ us))
  five first second third us a b c d = append_assoc first (a ∷ b ∷ (second ++ c ∷ (third ++ d ∷ []))) us
      ∙ ap (λ y. first ++ a ∷ b ∷ y) (append_assoc second (c ∷ (third ++ d ∷ [])) us ∙ ap (λ y. second ++ c ∷ y) (append_assoc third (d ∷ []) us))

  class_turn : (left : ℕ) (classes : Classes) (ts : List Token) (found : FoundClass) → IsClass parts ts found → found.height ≤ left → (us : List Token) → Any us → run (next_class rules left classes) (ts ++ us) ≡ Ok (On (with_class classes found), us)
  class_turn left classes _ _ (grammar.class {first} {second} {third} {start} {parent = above} {members} span name brace right w p d) le us c =
      ap (run (next_class rules left classes)) (five first second third us (sign CLASS span) (name_token name) (sign OPEN_BRACE brace) (sign CLOSE_BRACE right))
      ∙ class_after left classes (omega (arith, le)) first start w span (name_token name ∷ (second ++ sign OPEN_BRACE brace ∷ (third ++ sign CLOSE_BRACE right ∷ us))) us (class_of (begins start span) name above members right)
      (class_reads left (begins start span) name second third above members brace right p d (omega (arith, le)) us)

  class_takes : (ts : List Token) (found : FoundClass) → IsClass parts ts found → 0 < length ts
  class_takes _ _ (grammar.class {first} {second} {third} span name brace right w p d) = omega (arith, length-append first (sign CLASS span ∷ name_token name ∷ (second ++ sign OPEN_BRACE brace ∷ (third ++ sign CLOSE_BRACE right ∷ []))))

  classes_done : (left : ℕ) (classes : Classes) (us : List Token) → look (a_sign PUBLIC) us ≡ None → look (a_sign FINAL) us ≡ None → look (a_sign CLASS) us ≡ None → run (loop (next_class rules left) classes) us ≡ Ok (classes, us)
  unfolding next_class run
  classes_done left classes us p f c =
      let one : run (next_class rules left classes) us ≡ Ok (Done classes, us) = rw (p, f, c) refl in
      loop_done (next_class rules left) classes classes us us one

  classes_read : (left : ℕ) (ts : List Token) (classes : Classes) → IsRepeated (IsClass parts) no_classes with_class ts classes → classes.height ≤ left → run (loop (next_class rules left) no_classes) (ts ++ []) ≡ Ok (classes, [])
  unfolding Any
  classes_read left ts classes d le =
      repeated_reads (IsClass parts) no_classes with_class (next_class rules left) Any (λ c. c.height ≤ left) (λ c. c.height ≤ left) (λ ts x i us. tt) class_takes (λ s x q. (omega (arith, q), omega (arith, q))) (class_turn left) ts classes d le [] tt
      ∙ classes_done left classes [] refl refl refl

  word_starts : (n : ℕ) → (PUBLIC == n) ≡ false → (FINAL == n) ≡ false → (ts : List Token) (span : Span) → IsClassWord ts span → (us : List Token) → look (a_sign n) (ts ++ us) ≡ None
  word_starts n e f _ _ (grammar.public span) us = rw e refl
  word_starts n e f _ _ (grammar.final span) us = rw f refl

  class_starts : (n : ℕ) → (PUBLIC == n) ≡ false → (FINAL == n) ≡ false → (CLASS == n) ≡ false → (ts : List Token) (found : FoundClass) → IsClass parts ts found → (us : List Token) → look (a_sign n) (ts ++ us) ≡ None
  class_starts n e f g _ _ (grammar.class {first} {second} {third} {start} {parent = above} {members} span name brace right w p d) us =
      ap (look (a_sign n)) (five first second third us (sign CLASS span) (name_token name) (sign OPEN_BRACE brace) (sign CLOSE_BRACE right))
      ∙ repeated_starts IsClassWord None earlier (λ us. look (a_sign n) us ≡ None) (word_starts n e f) first start w (sign CLASS span ∷ name_token name ∷ (second ++ sign OPEN_BRACE brace ∷ (third ++ sign CLOSE_BRACE right ∷ us))) (rw g refl)

  -- ---- whole sources

  program_parts : (left : ℕ) (ts us vs : List Token) (classes : Classes) → run package_line ts ≡ Ok (tt, us) → run imports us ≡ Ok (tt, vs) → run (loop (next_class rules (left - 1)) no_classes) vs ≡ Ok (classes, [])
      → run (program rules left) ts ≡ Ok (unit_of classes, [])
  unfolding program run
  program_parts left ts us vs classes p i c = rw (p, i, c) refl

  program_ends : (left : ℕ) (first second third : List Token) (u v : Unit {0}) (classes : Classes) → IsPackage first u → IsRepeated IsImport tt nothing_more second v → IsRepeated (IsClass parts) no_classes with_class third classes
      → classes.height ≤ left - 1 → run (program rules left) (first ++ (second ++ (third ++ []))) ≡ Ok (unit_of classes, [])
  program_ends left first second third u v classes p i d le =
      program_parts left (first ++ (second ++ (third ++ []))) (second ++ (third ++ [])) (third ++ []) classes
      (package_reads first u p (second ++ (third ++ [])) (repeated_starts IsImport tt nothing_more (λ us. look (a_sign PACKAGE) us ≡ None) (import_starts PACKAGE refl) second v i (third ++ [])
      (repeated_starts (IsClass parts) no_classes with_class (λ us. look (a_sign PACKAGE) us ≡ None) (class_starts PACKAGE refl refl refl) third classes d [] refl)))
      (imports_read second v i (third ++ []) (repeated_starts (IsClass parts) no_classes with_class (λ us. look (a_sign IMPORT) us ≡ None) (class_starts IMPORT refl refl refl) third classes d [] refl))
      (classes_read (left - 1) third classes d le)

  pub program_reads : (left : ℕ) (ts : List Token) (found : FoundUnit) → IsProgram parts ts found → found.height ≤ left → run (program rules left) ts ≡ Ok (found, [])
  program_reads left _ _ (grammar.program {first} {second} {third} {name = u} {imports = v} {classes} p i d) le =
      subst (λ y. run (program rules left) (first ++ (second ++ y)) ≡ Ok (unit_of classes, [])) (append-nil third) (program_ends left first second third u v classes p i d (omega (arith, le)))
