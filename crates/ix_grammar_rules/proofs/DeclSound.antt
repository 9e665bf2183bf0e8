-- Modifiers, parameters and declarators that are read are in the grammar, and as high as is left at most.
use Rattle.std.proofs.Common.{ℕ, ◌≤◌, ◌+◌, ◌-◌, List, [], ◌∷◌, ◌++◌, sym, ap, subst, arith}
use Rattle.std.proofs.lemmas.List.{append-nil}
use Rattle.std.proofs.lemmas.Bool.{leb-true}
use Rattle.ix_text.specs.declared.span.Span.{Span}
use Rattle.ix_lexer.specs.declared.token.Token.{Token}
use Rattle.ix_lexer.specs.declared.fixed.TheConstants.{AT, ASSIGN, OPEN_PAREN}
use Rattle.ix_tree.specs.declared.annot.Ident.{Ident}
use Rattle.ix_grammar.specs.declared.declarations.FoundMods.{FoundMods}
use Rattle.ix_grammar.specs.declared.declarations.Params.{Params}
use Rattle.ix_grammar.specs.declared.declarations.Shared.{Shared}
use Rattle.ix_grammar.specs.declared.declarations.Word.{Word}
use Rattle.ix_grammar.specs.declared.found.FoundInit.{FoundInit}
use Rattle.ix_grammar_rules.specs.Rule.{Rule}
use Rattle.ix_grammar.specs.Patterns.{sign, name_token}
use Rattle.ix_grammar.specs.Lists.{IsSeparated, first_item}
use Rattle.ix_grammar.specs.DeclGrammar as grammar
use Rattle.ix_grammar.specs.DeclGrammar.{IsMods, IsDecl, IsDecls, IsParam, IsParams, IsName, IsThrows, no_mods, with_annot, local_words, init_decl, one_decl, with_decl, one_param, with_param, nothing, nothing_more}
use Rattle.ix_grammar_rules.specs.DeclRules.{next_mod, mods, decl_behind, decl, decls, param, some_params, params, a_thrown, throws}
use Rattle.ix_grammar_rules.proofs.SoundRules.{Sound, weaken, pure_sound, stop_sound, bind_sound, sign_sound, name_sound, loop_sound, After}
use Rattle.ix_grammar_rules.proofs.ListsSound.{sign_fits, one_fits, more_sound, more_fits}
use Rattle.ix_grammar_rules.proofs.AnnotSound.{annot_behind_sound}
use Rattle.ix_grammar_rules.proofs.TypeSound.{type_sound, tall_type}

-- ---- modifiers

-- Modifiers in the grammar, with room for each.
abbrev pub Modified : List (ℕ × Word) → ℕ → List Token → FoundMods → Type 0
Modified words left ts found = IsMods words ts found × (found.height ≤ left)

pub next_mod_sound : (words : List (ℕ × Word)) (left : ℕ) (found : FoundMods) (front : List Token) → Modified words left front found → Sound (After (Modified words left) (Modified words left) front) (next_mod words left found)
unfolding next_mod
next_mod_sound words left found front d = one_fits _ _ _ _ (λ fits number x e. pure_sound _ (grammar.word number x.span e d.0, d.1))
    (sign_fits _ _ _ _ (λ fits at. bind_sound _ _ (annot_behind_sound left at (leb-true 2 left fits)) (λ a seen r. pure_sound _
    (subst (λ y. IsMods words y (with_annot found a)) (ap (λ y. front ++ sign AT at ∷ y) (sym (append-nil seen))) (grammar.annot d.0 r.0), omega (arith, d.1, r.1))))
    (pure_sound _ (subst (λ y. IsMods words y found) (sym (append-nil front)) d.0, d.1)))

pub mods_sound : (words : List (ℕ × Word)) (left : ℕ) → Sound (Modified words left) (mods words left)
unfolding mods
mods_sound words left = loop_sound (next_mod words left) (Modified words left) (Modified words left) (next_mod_sound words left) no_mods [] (grammar.none, omega arith)

-- ---- declarators

module _ (IsInit : List Token → FoundInit → Type 0) (init : ℕ → Rule FoundInit) (init_sound : (room : ℕ) → Sound (λ ts found. IsInit ts found × (found.height ≤ room)) (init room)) where
  pub decl_behind_sound : (left : ℕ) (all : Shared) (name : Ident) → 1 + all.height ≤ left → Sound (λ ts d. IsDecl IsInit all (name_token name ∷ ts) d × (d.height ≤ left)) (decl_behind init left all name)
  unfolding decl_behind
  decl_behind_sound left all name room = sign_sound _ _ _ _ (λ assign. bind_sound _ _ (init_sound (left - 1)) (λ found seen r. pure_sound _
      (subst (λ y. IsDecl IsInit all (name_token name ∷ sign ASSIGN assign ∷ y) (init_decl all name found)) (sym (append-nil seen)) (grammar.with_init name assign r.0), omega (arith, room, r.1))))
      (pure_sound _ (grammar.plain name, room))

  pub decl_sound : (left : ℕ) (all : Shared) → 1 + all.height ≤ left → Sound (λ ts d. IsDecl IsInit all ts d × (d.height ≤ left)) (decl init left all)
  unfolding decl
  decl_sound left all room = name_sound _ _ _ (λ name. decl_behind_sound left all name room) stop_sound

  pub decls_sound : (left : ℕ) (all : Shared) (name : Ident) → 1 + all.height ≤ left → Sound (λ ts d. IsDecls IsInit all (name_token name ∷ ts) d × (d.height ≤ left)) (decls init left all name)
  unfolding decls
  decls_sound left all name room = bind_sound _ _ (decl_behind_sound left all name room) (λ first seen r.
      more_fits (IsDecl IsInit all) one_decl with_decl (decl init left all) (λ d. d.height ≤ left) (λ ds. ds.height ≤ left) (λ ds d p q. omega (arith, p, q)) (decl_sound left all room) (one_decl first) (name_token name ∷ seen) (first_item r.0) r.1)

-- ---- parameters

pub param_sound : (left : ℕ) → Sound (λ ts d. IsParam ts d × (d.height ≤ left)) (param left)
unfolding param
param_sound left = bind_sound _ _ (mods_sound local_words (left - 1)) (λ found before m. bind_sound _ _ (type_sound (left - 1)) (λ ty tokens t. name_sound _ _ _
    (λ name. pure_sound _ (grammar.param name m.0 t.0, omega (arith, m.1, t.1, tall_type t.0))) stop_sound))

abbrev pub ListedParams : ℕ → List Token → Params → Type 0
ListedParams left ts found = IsSeparated IsParam one_param with_param ts found × (found.height ≤ left)

pub some_params_sound : (left : ℕ) → Sound (ListedParams left) (some_params left)
unfolding some_params
some_params_sound left = bind_sound _ _ (param_sound left) (λ first seen r.
    more_fits IsParam one_param with_param (param left) (λ d. d.height ≤ left) (λ ds. ds.height ≤ left) (λ ds d p q. omega (arith, p, q)) (param_sound left) (one_param first) seen (first_item r.0) r.1)

pub params_sound : (left : ℕ) (opening : Span) → Sound (λ ts found. IsParams (sign OPEN_PAREN opening ∷ ts) found × (found.height ≤ left)) (params left)
unfolding params
params_sound left opening = sign_sound _ _ _ _ (λ right. pure_sound _ (grammar.none opening right, omega arith))
    (bind_sound _ _ (some_params_sound left) (λ found seen r. sign_sound _ _ _ _ (λ right. pure_sound _ (grammar.some opening right r.0, r.1)) stop_sound))

-- ---- what a method throws

pub a_thrown_sound : Sound IsName a_thrown
unfolding a_thrown
a_thrown_sound = name_sound _ _ _ (λ x. pure_sound _ (grammar.ident x)) stop_sound

pub throws_sound : Sound IsThrows throws
unfolding throws
throws_sound = sign_sound _ _ _ _ (λ span. name_sound _ _ _ (λ first. weaken _ (λ ts names d. grammar.throws span d)
    (more_sound IsName nothing nothing_more a_thrown a_thrown_sound tt (name_token first ∷ []) (first_item (grammar.ident first)))) stop_sound)
    (pure_sound _ grammar.none)
