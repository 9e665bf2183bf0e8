-- Modifiers, parameters and declarators (JLS 8.3, 8.4.1, 8.4.6, 14.4), as relations between lists of tokens and what they are.
use Rattle.std.specs.Prelude.{ℕ, ◌+◌, max, ◌≡◌, false, true, List, [], ◌∷◌, ◌++◌, Option, Some, None}
use Rattle.ix_text.specs.declared.span.Span.{Span}
use Rattle.ix_lexer.specs.declared.token.Token.{Token}
use Rattle.ix_lexer.specs.declared.fixed.TheConstants.{PUBLIC, PROTECTED, PRIVATE, STATIC, FINAL, THROWS, ASSIGN, OPEN_PAREN, CLOSE_PAREN}
use Rattle.ix_tree.specs.declared.annot.Ident.{Ident}
use Rattle.ix_tree.specs.declared.annot.Annot.{Annot}
use Rattle.ix_tree.specs.declared.annot.Mods.{Mods}
use Rattle.ix_tree.specs.declared.decl.LocalDecl.{LocalDecl}
use Rattle.ix_tree.specs.declared.expr.Init.{Init}
use Rattle.ix_grammar.specs.declared.declarations.FoundDecl.{FoundDecl}
use Rattle.ix_grammar.specs.declared.declarations.FoundMods.{FoundMods}
use Rattle.ix_grammar.specs.declared.declarations.Params.{Params}
use Rattle.ix_grammar.specs.declared.declarations.Shared.{Shared}
use Rattle.ix_grammar.specs.declared.declarations.Word.{Word}
use Rattle.ix_grammar.specs.declared.declarations.Word.TheVariants.{Open, Private, Static, Final}
use Rattle.ix_grammar.specs.declared.found.FoundDecls.{FoundDecls}
use Rattle.ix_grammar.specs.declared.found.FoundInit.{FoundInit}
use Rattle.ix_grammar.specs.declared.found.FoundType.{FoundType}
use Rattle.ix_grammar.specs.Patterns.{sign, name_token, row}
use Rattle.ix_grammar.specs.Lists.{IsSeparated}
use Rattle.ix_grammar.specs.AnnotGrammar.{IsAnnot, annot_height}
use Rattle.ix_grammar.specs.TypeGrammar.{IsType}

-- ---- modifiers

-- the place of the first one, where another follows those that were read
abbrev pub earlier : Option Span → Span → Option Span
earlier None span = Some span
earlier (Some first) span = Some first

-- where something begins that such places stand before
abbrev pub begins : Option Span → Span → Span
begins None span = span
begins (Some first) span = first

abbrev pub marked : Mods → Word → Mods
marked mods Open = mods
marked mods Private = record { is_static = mods.is_static; is_final = mods.is_final; is_private = true; annots = mods.annots }
marked mods Static = record { is_static = true; is_final = mods.is_final; is_private = mods.is_private; annots = mods.annots }
marked mods Final = record { is_static = mods.is_static; is_final = true; is_private = mods.is_private; annots = mods.annots }

abbrev pub noted : Mods → Annot → Mods
noted mods annot = record { is_static = mods.is_static; is_final = mods.is_final; is_private = mods.is_private; annots = mods.annots ++ annot ∷ [] }

abbrev pub no_mods : FoundMods
no_mods = record { mods = record { is_static = false; is_final = false; is_private = false; annots = [] }; height = 0; first = None }

abbrev pub with_word : FoundMods → Word → Span → FoundMods
with_word found word span = record { mods = marked found.mods word; height = found.height; first = earlier found.first span }

abbrev pub with_annot : FoundMods → Annot → FoundMods
with_annot found annot = record { mods = noted found.mods annot; height = max found.height (annot_height annot); first = earlier found.first annot.span }

abbrev pub member_words : List (ℕ × Word)
member_words = (PUBLIC, Open) ∷ (PROTECTED, Open) ∷ (PRIVATE, Private) ∷ (STATIC, Static) ∷ (FINAL, Final) ∷ []

abbrev pub local_words : List (ℕ × Word)
local_words = (FINAL, Final) ∷ []

-- {Word | Annot} with the words of a table
pub data IsMods (words : List (ℕ × Word)) : List Token → FoundMods → Type 0 where
  none : IsMods words [] no_mods
  word : {tokens : List Token} {found : FoundMods} (number : ℕ) (span : Span) {word : Word} → row words number ≡ Some word → IsMods words tokens found
      → IsMods words (tokens ++ sign number span ∷ []) (with_word found word span)
  annot : {before tokens : List Token} {found : FoundMods} {annot : Annot} → IsMods words before found → IsAnnot tokens annot
      → IsMods words (before ++ tokens) (with_annot found annot)

-- ---- declarators

-- what all declarators of a declaration have
abbrev pub shared : FoundMods → FoundType → Shared
shared found ty = record { mods = found.mods; ty = ty.ty; height = max (max found.height ty.height) 1 }

abbrev pub declared : Shared → Ident → Option Init → LocalDecl
declared all name init = record { mods = all.mods; ty = all.ty; name = name; init = init }

abbrev pub plain_decl : Shared → Ident → FoundDecl
plain_decl all name = record { decl = declared all name None; height = 1 + all.height; end = name.span }

abbrev pub init_decl : Shared → Ident → FoundInit → FoundDecl
init_decl all name found = record { decl = declared all name (Some found.init); height = 1 + max all.height found.height; end = found.end }

abbrev pub one_decl : FoundDecl → FoundDecls
one_decl found = record { decls = found.decl ∷ []; height = found.height; end = found.end }

abbrev pub with_decl : FoundDecls → FoundDecl → FoundDecls
with_decl decls found = record { decls = decls.decls ++ found.decl ∷ []; height = max decls.height found.height; end = found.end }

-- Decl = Ident ["=" Init]
pub data IsDecl (IsInit : List Token → FoundInit → Type 0) (all : Shared) : List Token → FoundDecl → Type 0 where
  plain : (name : Ident) → IsDecl IsInit all (name_token name ∷ []) (plain_decl all name)
  with_init : (name : Ident) (assign : Span) {tokens : List Token} {found : FoundInit} → IsInit tokens found
      → IsDecl IsInit all (name_token name ∷ sign ASSIGN assign ∷ tokens) (init_decl all name found)

-- Decls = Decl {"," Decl}
abbrev pub IsDecls : (List Token → FoundInit → Type 0) → Shared → List Token → FoundDecls → Type 0
IsDecls IsInit all = IsSeparated (IsDecl IsInit all) one_decl with_decl

-- ---- parameters

abbrev pub no_params : Params
no_params = record { params = []; height = 0 }

abbrev pub one_param : FoundDecl → Params
one_param found = record { params = found.decl ∷ []; height = found.height }

abbrev pub with_param : Params → FoundDecl → Params
with_param params found = record { params = params.params ++ found.decl ∷ []; height = max params.height found.height }

-- Param = {"final" | Annot} Type Ident
pub data IsParam : List Token → FoundDecl → Type 0 where
  param : {before tokens : List Token} {mods : FoundMods} {ty : FoundType} (name : Ident) → IsMods local_words before mods → IsType tokens ty
      → IsParam (before ++ (tokens ++ name_token name ∷ [])) (plain_decl (shared mods ty) name)

-- Params = "(" [Param {"," Param}] ")"
pub data IsParams : List Token → Params → Type 0 where
  none : (left right : Span) → IsParams (sign OPEN_PAREN left ∷ sign CLOSE_PAREN right ∷ []) no_params
  some : (left right : Span) {tokens : List Token} {params : Params} → IsSeparated IsParam one_param with_param tokens params
      → IsParams (sign OPEN_PAREN left ∷ (tokens ++ sign CLOSE_PAREN right ∷ [])) params

-- ---- what a method throws, which leaves no node

abbrev pub nothing : {A : Type 0} → A → Unit {0}
nothing a = tt

abbrev pub nothing_more : {A : Type 0} → Unit {0} → A → Unit {0}
nothing_more before a = tt

pub data IsName : List Token → Ident → Type 0 where
  ident : (found : Ident) → IsName (name_token found ∷ []) found

-- Throws = ["throws" Ident {"," Ident}]
pub data IsThrows : List Token → Unit {0} → Type 0 where
  none : IsThrows [] tt
  throws : (span : Span) {tokens : List Token} {names : Unit {0}} → IsSeparated IsName nothing nothing_more tokens names → IsThrows (sign THROWS span ∷ tokens) tt
