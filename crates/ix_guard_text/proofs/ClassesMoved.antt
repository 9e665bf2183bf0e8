-- Bodies, members and classes of moved tokens.
use Rattle.std.proofs.Common.{◌≡◌, ℕ, max, Bool, false, true, List, [], ◌∷◌, ◌++◌, map, Some, None, refl, sym, ap}
use Rattle.ix_lexer.specs.declared.fixed.TheConstants.{CLASS, VOID, SEMICOLON, OPEN_BRACE, CLOSE_BRACE}
use Rattle.ix_tree.specs.declared.decl.LocalDecl.{LocalDecl}
use Rattle.ix_tree.specs.declared.decl.Member.{Member}
use Rattle.ix_tree.specs.declared.decl.Member.TheVariants.{Field}
use Rattle.ix_grammar.specs.declared.classes.Members.{Members}
use Rattle.ix_grammar.specs.Patterns.{sign, name_token}
use Rattle.ix_grammar.specs.DeclGrammar.{earlier, member_words, shared}
use Rattle.ix_grammar.specs.StmtGrammar.{IsBlockStmt}
use Rattle.ix_grammar.specs.ClassGrammar as g
use Rattle.ix_grammar.specs.ClassGrammar.{IsBody, IsBehind, IsMember, IsClassWord, IsClassWords, IsParent, IsClass, method_of, fields, no_stmts, with_stmt, no_members, with_members, class_of}
use Rattle.ix_grammar.specs.SourceGrammar.{source_parts}
use Rattle.ix_guard_text.specs.Bare.{bare_maybe as maybe}
use Rattle.ix_guard_text.proofs.ClassesAgain.{map_both}
use Rattle.ix_guard_text.specs.Moved.{Move, moved_span, moved_name, moved_decl, moved_member}
use Rattle.ix_guard_text.specs.MovedFound.{moved_found_type, moved_found_mods, moved_found_stmt, moved_stmts, moved_body, moved_behind, moved_members, moved_found_class}
use Rattle.ix_guard_text.proofs.ListsMoved.{both, Moves, same_found, repeated}
use Rattle.ix_guard_text.proofs.AnnotsMoved.{type_moves}
use Rattle.ix_guard_text.proofs.ExprsMoved.{args_move}
use Rattle.ix_guard_text.proofs.DeclsMoved.{earlier_moved, begins_moved, mods_move, decls_move, params_move, throws_move}
use Rattle.ix_guard_text.proofs.StmtsMoved.{stmts_joined, block_stmt_moves}

module _ (move : Move) where
  -- ---- bodies

  pub stmts_move : Moves move (g.IsStmts source_parts) (g.IsStmts source_parts) (moved_stmts move)
  stmts_move = repeated move IsBlockStmt IsBlockStmt (moved_found_stmt move) (block_stmt_moves move) (moved_stmts move) with_stmt (stmts_joined move) no_stmts refl

  body_moves : (constructor : Bool) → Moves move (IsBody source_parts constructor) (IsBody source_parts constructor) (moved_body move)
  body_moves constructor _ _ (g.block {tokens} {stmts} left right d) =
      rw (both move tokens (sign CLOSE_BRACE right ∷ [])) (g.block (moved_span move left) (moved_span move right) (stmts_move tokens stmts d))
  body_moves _ _ _ (g.with_super {before} {tokens} {args} {stmts} left super end right a d) =
      rw (both move before (sign SEMICOLON end ∷ (tokens ++ sign CLOSE_BRACE right ∷ [])), both move tokens (sign CLOSE_BRACE right ∷ []))
      (g.with_super (moved_span move left) (moved_span move super) (moved_span move end) (moved_span move right) (args_move move before args a) (stmts_move tokens stmts d))

  -- ---- members

  behind_moves : (constructor : Bool) → Moves move (IsBehind source_parts constructor) (IsBehind source_parts constructor) (moved_behind move)
  behind_moves constructor _ _ (g.behind {first} {second} {third} {params} {names} {body} p t b) =
      rw (both move first (second ++ third), both move second third)
      (g.behind (params_move move first params p) (throws_move move second names t) (body_moves constructor third body b))

  fields_moved : (decls : List LocalDecl) → fields (map (moved_decl move) decls) ≡ map (moved_member move) (fields decls)
  fields_moved [] = refl
  fields_moved (decl ∷ decls) = ap (λ l. Field (moved_decl move decl) ∷ l) (fields_moved decls)

  abbrev members_of : List Member → ℕ → Members
  members_of members height = record { members = members; height = height }

  pub member_moves : Moves move (IsMember source_parts) (IsMember source_parts) (moved_members move)
  member_moves _ _ (g.some_fields {first} {second} {third} {mods} {ty} {decls} end m t d) =
      rw (both move first (second ++ (third ++ sign SEMICOLON end ∷ [])), both move second (third ++ sign SEMICOLON end ∷ []), both move third (sign SEMICOLON end ∷ []))
      (same_found (IsMember source_parts) (ap (λ l. members_of l decls.height) (fields_moved decls.decls))
      (g.some_fields (moved_span move end) (mods_move move member_words first mods m) (type_moves move second ty t) (decls_move move (shared mods ty) third decls d)))
  member_moves _ _ (g.method {first} {second} {third} {mods} {ty} {rest} name m t b) =
      rw (both move first (second ++ name_token name ∷ third), both move second (name_token name ∷ third))
      (same_found (IsMember source_parts)
      (ap (λ x. method_of x (moved_found_mods move mods) (Some (moved_found_type move ty)) false (moved_name move name) (moved_behind move rest)) (begins_moved move mods.first ty.ty.span))
      (g.method (moved_name move name) (mods_move move member_words first mods m) (type_moves move second ty t) (behind_moves false third rest b)))
  member_moves _ _ (g.void_method {first} {second} {mods} {rest} void name m b) =
      rw (both move first (sign VOID void ∷ name_token name ∷ second))
      (same_found (IsMember source_parts) (ap (λ x. method_of x (moved_found_mods move mods) None false (moved_name move name) (moved_behind move rest)) (begins_moved move mods.first void))
      (g.void_method (moved_span move void) (moved_name move name) (mods_move move member_words first mods m) (behind_moves false second rest b)))
  member_moves _ _ (g.constructor_of {first} {second} {mods} {rest} name m b) =
      rw (both move first (name_token name ∷ second))
      (same_found (IsMember source_parts) (ap (λ x. method_of x (moved_found_mods move mods) None true (moved_name move name) (moved_behind move rest)) (begins_moved move mods.first name.span))
      (g.constructor_of (moved_name move name) (mods_move move member_words first mods m) (behind_moves true second rest b)))

  members_joined : (s x : Members) → with_members (moved_members move s) (moved_members move x) ≡ moved_members move (with_members s x)
  members_joined s x = ap (λ l. members_of l (max s.height x.height)) (sym (map_both (moved_member move) s.members x.members))

  -- ---- classes

  word_moves : Moves move IsClassWord IsClassWord (moved_span move)
  word_moves _ _ (g.public span) = g.public (moved_span move span)
  word_moves _ _ (g.final span) = g.final (moved_span move span)

  pub words_move : Moves move IsClassWords IsClassWords (maybe (moved_span move))
  words_move = repeated move IsClassWord IsClassWord (moved_span move) word_moves (maybe (moved_span move)) earlier (earlier_moved move) None refl

  pub parent_moves : Moves move IsParent IsParent (maybe (moved_name move))
  parent_moves _ _ g.none = g.none
  parent_moves _ _ (g.extends span name) = g.extends (moved_span move span) (moved_name move name)

  pub class_moves : Moves move (IsClass source_parts) (IsClass source_parts) (moved_found_class move)
  class_moves _ _ (g.class {first} {second} {third} {start} {parent} {members} span name left right w x r) =
      rw (both move first (sign CLASS span ∷ name_token name ∷ (second ++ sign OPEN_BRACE left ∷ (third ++ sign CLOSE_BRACE right ∷ []))), both move second (sign OPEN_BRACE left ∷ (third ++ sign CLOSE_BRACE right ∷ [])), both move third (sign CLOSE_BRACE right ∷ []))
      (same_found (IsClass source_parts) (ap (λ y. class_of y (moved_name move name) (maybe (moved_name move) parent) (moved_members move members) (moved_span move right)) (begins_moved move start span))
      (g.class (moved_span move span) (moved_name move name) (moved_span move left) (moved_span move right) (words_move first start w) (parent_moves second parent x)
      (repeated move (IsMember source_parts) (IsMember source_parts) (moved_members move) member_moves (moved_members move) with_members members_joined no_members refl third members r)))
