-- Where modifiers, parameters and declarators stop, what was taken goes on to some with room for them.
use Rattle.std.proofs.Common.{ℕ, ◌≤◌, ◌+◌, ◌-◌, List, [], ◌∷◌, sym, subst, arith}
use Rattle.std.proofs.lemmas.List.{append-nil}
use Rattle.std.proofs.lemmas.Bool.{leb-true}
use Rattle.ix_text.specs.declared.span.Span.{Span}
use Rattle.ix_lexer.specs.declared.token.Token.{Token}
use Rattle.ix_lexer.specs.declared.fixed.TheConstants.{INT, OPEN_PAREN, CLOSE_PAREN}
use Rattle.ix_tree.specs.declared.annot.Ident.{Ident}
use Rattle.ix_grammar.specs.declared.declarations.FoundMods.{FoundMods}
use Rattle.ix_grammar.specs.declared.declarations.Shared.{Shared}
use Rattle.ix_grammar.specs.declared.declarations.Word.{Word}
use Rattle.ix_grammar.specs.declared.found.FoundInit.{FoundInit}
use Rattle.ix_grammar_rules.specs.Rule.{Rule, On, Done}
use Rattle.ix_grammar.specs.Patterns.{sign, name_token}
use Rattle.ix_grammar.specs.Lists.{first_item}
use Rattle.ix_grammar.specs.TypeGrammar as types
use Rattle.ix_grammar.specs.DeclGrammar as grammar
use Rattle.ix_grammar.specs.DeclGrammar.{IsDecl, IsDecls, IsParam, IsParams, IsName, IsThrows, no_mods, with_annot, local_words, plain_decl, init_decl, one_decl, with_decl, one_param, with_param, nothing, nothing_more}
use Rattle.ix_grammar_rules.specs.DeclRules.{next_mod, mods, decl_behind, decl, decls, param, some_params, params, a_thrown, throws}
use Rattle.ix_grammar_rules.proofs.SoundRules.{Sound, After}
use Rattle.ix_grammar_rules.proofs.AnnotSound.{annot_behind_sound}
use Rattle.ix_grammar_rules.proofs.TypeSound.{type_sound, tall_type}
use Rattle.ix_grammar_rules.proofs.DeclSound.{Modified, next_mod_sound, mods_sound, decl_behind_sound, decl_sound, param_sound, ListedParams, some_params_sound, a_thrown_sound}
use Rattle.ix_grammar_rules.proofs.ViableRules.{Goes, Viable, weaken_viable, pure_viable, stop_viable, bind_viable, map_viable, loop_viable, sign_viable, name_viable, one_viable}
use Rattle.ix_grammar_rules.proofs.ListsViable.{here, some_name, done_goes, ended_viable, more_viable, more_plain_viable}
use Rattle.ix_grammar_rules.proofs.AnnotViable.{annot_behind_viable}
use Rattle.ix_grammar_rules.proofs.TypeViable.{type_viable}

-- ---- modifiers

mods_done : (words : List (ℕ × Word)) (left : ℕ) (found : FoundMods) (front : List Token) → Modified words left front found → Goes (After (Modified words left) (Modified words left) front) []
mods_done words left found front d = ([], Done found, subst (λ y. Modified words left y found) (sym (append-nil front)) d)

pub next_mod_viable : (words : List (ℕ × Word)) (left : ℕ) (found : FoundMods) (front : List Token) → Modified words left front found → Viable (After (Modified words left) (Modified words left) front) (next_mod words left found)
unfolding next_mod
next_mod_viable words left found front d = one_viable _ _ _ _ (λ f. mods_done words left found front d) (λ fits number x e. pure_viable _)
    (sign_viable _ _ _ _ (λ f. mods_done words left found front d) (λ fits at. map_viable _ (λ a. On (with_annot found a)) (annot_behind_sound left at (leb-true 2 left fits)) (annot_behind_viable left at (leb-true 2 left fits))
    (λ a seen r. (grammar.annot d.0 r.0, omega (arith, d.1, r.1))))
    (pure_viable _))

pub mods_viable : (words : List (ℕ × Word)) (left : ℕ) → Viable (Modified words left) (mods words left)
unfolding mods
mods_viable words left = loop_viable (next_mod words left) (Modified words left) (Modified words left) (next_mod_sound words left) (next_mod_viable words left) (λ s ts r. done_goes (Modified words left) ts s r) no_mods [] (grammar.none, omega arith)

-- ---- declarators

module _ (IsInit : List Token → FoundInit → Type 0) (init : ℕ → Rule FoundInit) (init_sound : (room : ℕ) → Sound (λ ts found. IsInit ts found × (found.height ≤ room)) (init room))
    (init_viable : (room : ℕ) → 1 ≤ room → Viable (λ ts found. IsInit ts found × (found.height ≤ room)) (init room)) where
  decl_behind_viable : (left : ℕ) (all : Shared) (name : Ident) → 2 ≤ left → 1 + all.height ≤ left → Viable (λ ts d. IsDecl IsInit all (name_token name ∷ ts) d × (d.height ≤ left)) (decl_behind init left all name)
  unfolding decl_behind
  decl_behind_viable left all name two room = sign_viable _ _ _ _ (λ f. absurd (cc)) (λ f assign. map_viable (init (left - 1)) (init_decl all name) (init_sound (left - 1)) (init_viable (left - 1) (omega (arith, two)))
      (λ found seen r. (grammar.with_init name assign r.0, omega (arith, room, r.1))))
      (pure_viable _)

  decl_viable : (left : ℕ) (all : Shared) → 2 ≤ left → 1 + all.height ≤ left → Viable (λ ts d. IsDecl IsInit all ts d × (d.height ≤ left)) (decl init left all)
  unfolding decl
  decl_viable left all two room = name_viable _ _ _ (λ f. absurd (cc)) (λ f name. decl_behind_viable left all name two room) (stop_viable (name_token some_name ∷ [], plain_decl all some_name, (grammar.plain some_name, room)))

  pub decls_viable : (left : ℕ) (all : Shared) (name : Ident) → 2 ≤ left → 1 + all.height ≤ left → Viable (λ ts d. IsDecls IsInit all (name_token name ∷ ts) d × (d.height ≤ left)) (decls init left all name)
  unfolding decls
  decls_viable left all name two room = bind_viable _ _ (decl_behind_sound IsInit init init_sound left all name room) (decl_behind_viable left all name two room)
      (λ first seen r. done_goes (λ ts ds. IsDecls IsInit all ts ds × (ds.height ≤ left)) (name_token name ∷ seen) (one_decl first) (first_item r.0, r.1))
      (λ first seen r. more_viable (IsDecl IsInit all) one_decl with_decl (decl init left all) (λ d. d.height ≤ left) (λ ds. ds.height ≤ left) (λ ds d p q. omega (arith, p, q))
      (decl_sound IsInit init init_sound left all room) (decl_viable left all two room) (one_decl first) (name_token name ∷ seen) (first_item r.0) r.1)

-- ---- parameters

param_viable : (left : ℕ) → 2 ≤ left → Viable (λ ts d. IsParam ts d × (d.height ≤ left)) (param left)
unfolding param
param_viable left two = bind_viable _ _ (mods_sound local_words (left - 1)) (mods_viable local_words (left - 1))
    (λ found before m. (sign INT here ∷ name_token some_name ∷ [], _, (grammar.param some_name m.0 (types.type (types.int here) types.no_rest), omega (arith, m.1, two))))
    (λ found before m. bind_viable _ _ (type_sound (left - 1)) (type_viable (left - 1) (omega (arith, two)))
    (λ ty tokens t. (name_token some_name ∷ [], _, (grammar.param some_name m.0 t.0, omega (arith, m.1, t.1, tall_type t.0))))
    (λ ty tokens t. name_viable _ _ _ (λ f. absurd (cc)) (λ f name. pure_viable _) (stop_viable (name_token some_name ∷ [], _, (grammar.param some_name m.0 t.0, omega (arith, m.1, t.1, tall_type t.0))))))

some_params_viable : (left : ℕ) → 2 ≤ left → Viable (ListedParams left) (some_params left)
unfolding some_params
some_params_viable left two = bind_viable _ _ (param_sound left) (param_viable left two) (λ first seen r. done_goes (ListedParams left) seen (one_param first) (first_item r.0, r.1))
    (λ first seen r. more_viable IsParam one_param with_param (param left) (λ d. d.height ≤ left) (λ ds. ds.height ≤ left) (λ ds d p q. omega (arith, p, q)) (param_sound left) (param_viable left two) (one_param first) seen (first_item r.0) r.1)

pub params_viable : (left : ℕ) (opening : Span) → 2 ≤ left → Viable (λ ts found. IsParams (sign OPEN_PAREN opening ∷ ts) found × (found.height ≤ left)) (params left)
unfolding params
params_viable left opening two = sign_viable _ _ _ _ (λ f. absurd (cc)) (λ f right. pure_viable _)
    (ended_viable (some_params left) CLOSE_PAREN (λ found right. found) (some_params_sound left) (some_params_viable left two) (λ found seen r right. (grammar.some opening right r.0, r.1)))

-- ---- what a method throws

a_thrown_viable : Viable IsName a_thrown
unfolding a_thrown
a_thrown_viable = name_viable _ _ _ (λ f. absurd (cc)) (λ f x. pure_viable _) (stop_viable (name_token some_name ∷ [], some_name, grammar.ident some_name))

pub throws_viable : Viable IsThrows throws
unfolding throws
throws_viable = sign_viable _ _ _ _ (λ f. absurd (cc)) (λ f span. name_viable _ _ _ (λ f. absurd (cc)) (λ f first. weaken_viable _ (λ ts names d. grammar.throws span d)
    (more_plain_viable IsName nothing nothing_more a_thrown a_thrown_sound a_thrown_viable tt (name_token first ∷ []) (first_item (grammar.ident first))))
    (stop_viable (name_token some_name ∷ [], tt, grammar.throws span (first_item (grammar.ident some_name)))))
    (pure_viable _)
