-- Modifiers, declarators and parameters of moved tokens.
use Rattle.std.proofs.Common.{◌≡◌, ℕ, max, List, [], ◌∷◌, ◌++◌, Option, Some, None, refl, sym, ap, ◌∙◌}
use Rattle.ix_text.specs.declared.span.Span.{Span}
use Rattle.ix_lexer.specs.declared.fixed.TheConstants.{CLOSE_PAREN}
use Rattle.ix_tree.specs.declared.annot.Annot.{Annot}
use Rattle.ix_tree.specs.declared.annot.Mods.{Mods}
use Rattle.ix_tree.specs.declared.decl.LocalDecl.{LocalDecl}
use Rattle.ix_grammar.specs.declared.declarations.FoundDecl.{FoundDecl}
use Rattle.ix_grammar.specs.declared.declarations.FoundMods.{FoundMods}
use Rattle.ix_grammar.specs.declared.declarations.Params.{Params}
use Rattle.ix_grammar.specs.declared.declarations.Shared.{Shared}
use Rattle.ix_grammar.specs.declared.declarations.Word.{Word}
use Rattle.ix_grammar.specs.declared.declarations.Word.TheVariants.{Open, Private, Static, Final}
use Rattle.ix_grammar.specs.declared.found.FoundDecls.{FoundDecls}
use Rattle.ix_grammar.specs.Patterns.{sign, name_token}
use Rattle.ix_grammar.specs.AnnotGrammar.{annot_height}
use Rattle.ix_grammar.specs.DeclGrammar as g
use Rattle.ix_grammar.specs.DeclGrammar.{earlier, begins, marked, noted, with_word, with_annot, IsMods, shared, local_words, IsDecl, IsDecls, one_decl, with_decl, IsParam, IsParams, one_param, with_param, nothing, nothing_more, IsName, IsThrows}
use Rattle.ix_grammar.specs.ExprGrammar.{IsInit}
use Rattle.ix_guard_text.specs.Bare.{bare_maybe as maybe}
use Rattle.ix_guard_text.proofs.ListsAgain.{map_joined}
use Rattle.ix_guard_text.specs.Moved.{Move, moved_span, moved_name, moved_annot, moved_mods, moved_decl}
use Rattle.ix_guard_text.specs.MovedFound.{moved_found_mods, moved_shared, moved_found_decl, moved_decls, moved_params}
use Rattle.ix_guard_text.proofs.ListsMoved.{both, Moves, same_found, separated}
use Rattle.ix_guard_text.proofs.AnnotsMoved.{annot_height_moved, annot_moves, type_moves}
use Rattle.ix_guard_text.proofs.ExprsMoved.{init_moves}

module _ (move : Move) where
  -- ---- modifiers

  pub earlier_moved : (first : Option Span) (span : Span) → earlier (maybe (moved_span move) first) (moved_span move span) ≡ maybe (moved_span move) (earlier first span)
  earlier_moved None span = refl
  earlier_moved (Some first) span = refl

  pub begins_moved : (first : Option Span) (span : Span) → begins (maybe (moved_span move) first) (moved_span move span) ≡ moved_span move (begins first span)
  begins_moved None span = refl
  begins_moved (Some first) span = refl

  marked_moved : (mods : Mods) (word : Word) → marked (moved_mods move mods) word ≡ moved_mods move (marked mods word)
  marked_moved mods Open = refl
  marked_moved mods Private = refl
  marked_moved mods Static = refl
  marked_moved mods Final = refl

  abbrev found_mods : Mods → ℕ → Option Span → FoundMods
  found_mods mods height first = record { mods = mods; height = height; first = first }

  word_joined : (found : FoundMods) (word : Word) (span : Span) → with_word (moved_found_mods move found) word (moved_span move span) ≡ moved_found_mods move (with_word found word span)
  word_joined found word span =
      ap (λ x. found_mods x found.height (earlier (maybe (moved_span move) found.first) (moved_span move span))) (marked_moved found.mods word)
      ∙ ap (λ x. found_mods (moved_mods move (marked found.mods word)) found.height x) (earlier_moved found.first span)

  abbrev with_annots : Mods → List Annot → Mods
  with_annots mods annots = record { is_static = mods.is_static; is_final = mods.is_final; is_private = mods.is_private; annots = annots }

  annot_joined : (found : FoundMods) (annot : Annot) → with_annot (moved_found_mods move found) (moved_annot move annot) ≡ moved_found_mods move (with_annot found annot)
  annot_joined found annot =
      ap (λ x. found_mods (noted (moved_mods move found.mods) (moved_annot move annot)) x (earlier (maybe (moved_span move) found.first) (moved_span move annot.span))) (ap (λ n. max found.height n) (annot_height_moved move annot))
      ∙ ap (λ x. found_mods (noted (moved_mods move found.mods) (moved_annot move annot)) (max found.height (annot_height annot)) x) (earlier_moved found.first annot.span)
      ∙ ap (λ x. found_mods (with_annots found.mods x) (max found.height (annot_height annot)) (maybe (moved_span move) (earlier found.first annot.span))) (sym (map_joined (moved_annot move) found.mods.annots annot))

  pub mods_move : (words : List (ℕ × Word)) → Moves move (IsMods words) (IsMods words) (moved_found_mods move)
  mods_move words _ _ g.none = g.none
  mods_move words _ _ (g.word {tokens} {found} number span {word} r d) =
      rw (both move tokens (sign number span ∷ [])) (same_found (IsMods words) (word_joined found word span) (g.word number (moved_span move span) r (mods_move words tokens found d)))
  mods_move words _ _ (g.annot {before} {tokens} {found} {annot} d a) =
      rw (both move before tokens) (same_found (IsMods words) (annot_joined found annot) (g.annot (mods_move words before found d) (annot_moves move tokens annot a)))

  -- ---- declarators

  decl_moves : (all : Shared) → Moves move (IsDecl IsInit all) (IsDecl IsInit (moved_shared move all)) (moved_found_decl move)
  decl_moves all _ _ (g.plain name) = g.plain (moved_name move name)
  decl_moves all _ _ (g.with_init name assign {tokens} {found} d) = g.with_init (moved_name move name) (moved_span move assign) (init_moves move tokens found d)

  decls_joined : (decls : FoundDecls) (found : FoundDecl) → with_decl (moved_decls move decls) (moved_found_decl move found) ≡ moved_decls move (with_decl decls found)
  decls_joined decls found =
      ap (λ (l : List LocalDecl). let x : FoundDecls = record { decls = l; height = max decls.height found.height; end = moved_span move found.end } in x) (sym (map_joined (moved_decl move) decls.decls found.decl))

  pub decls_move : (all : Shared) → Moves move (IsDecls IsInit all) (IsDecls IsInit (moved_shared move all)) (moved_decls move)
  decls_move all =
      separated move (IsDecl IsInit all) (IsDecl IsInit (moved_shared move all)) (moved_found_decl move) (decl_moves all) (moved_decls move) with_decl decls_joined one_decl (λ x. refl)

  -- ---- parameters

  param_moves : Moves move IsParam IsParam (moved_found_decl move)
  param_moves _ _ (g.param {before} {tokens} {mods} {ty} name d t) =
      rw (both move before (tokens ++ name_token name ∷ []), both move tokens (name_token name ∷ []))
      (g.param (moved_name move name) (mods_move local_words before mods d) (type_moves move tokens ty t))

  params_joined : (params : Params) (found : FoundDecl) → with_param (moved_params move params) (moved_found_decl move found) ≡ moved_params move (with_param params found)
  params_joined params found =
      ap (λ (l : List LocalDecl). let x : Params = record { params = l; height = max params.height found.height } in x) (sym (map_joined (moved_decl move) params.params found.decl))

  pub params_move : Moves move IsParams IsParams (moved_params move)
  params_move _ _ (g.none left right) = g.none (moved_span move left) (moved_span move right)
  params_move _ _ (g.some left right {tokens} {params} d) =
      rw (both move tokens (sign CLOSE_PAREN right ∷ []))
      (g.some (moved_span move left) (moved_span move right) (separated move IsParam IsParam (moved_found_decl move) param_moves (moved_params move) with_param params_joined one_param (λ x. refl) tokens params d))

  -- ---- what leaves no node

  name_moves : Moves move IsName IsName (moved_name move)
  name_moves _ _ (g.ident found) = g.ident (moved_name move found)

  pub throws_move : Moves move IsThrows IsThrows (λ x. x)
  throws_move _ _ g.none = g.none
  throws_move _ _ (g.throws span {tokens} {names} d) =
      g.throws (moved_span move span) (separated move IsName IsName (moved_name move) name_moves (λ x. x) nothing_more (λ s x. refl) nothing (λ x. refl) tokens names d)
