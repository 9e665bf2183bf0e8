-- Modifiers, parameters and declarators with more height left.
use Rattle.std.proofs.Common.{ℕ, ◌≤◌, ◌+◌, ◌-◌, List, arith}
use Rattle.std.proofs.lemmas.Bool.{le-leb}
use Rattle.ix_tree.specs.declared.annot.Ident.{Ident}
use Rattle.ix_grammar.specs.declared.declarations.FoundMods.{FoundMods}
use Rattle.ix_grammar.specs.declared.declarations.Shared.{Shared}
use Rattle.ix_grammar.specs.declared.declarations.Word.{Word}
use Rattle.ix_grammar.specs.declared.found.FoundInit.{FoundInit}
use Rattle.ix_grammar_rules.specs.Rule.{Rule}
use Rattle.ix_grammar.specs.DeclGrammar.{no_mods, local_words, one_decl, with_decl, one_param, with_param, nothing, nothing_more}
use Rattle.ix_grammar_rules.specs.DeclRules.{next_mod, mods, decl_behind, decl, decls, param, some_params, params, a_thrown, throws}
use Rattle.ix_grammar_rules.proofs.OverRules.{Over, over_pure, over_stop, over_take}
use Rattle.ix_grammar_rules.proofs.AnnotOver.{over_token, over_last, over_then, over_map, over_turns, more_over, annot_behind_over, type_over}

-- ---- modifiers

pub next_mod_over : (words : List (ℕ × Word)) (left more : ℕ) → 3 ≤ more → (found : FoundMods) → Over (next_mod words left found) (next_mod words more found)
unfolding next_mod
next_mod_over words left more room found = over_take _ _ _ _ _ _ _ (le-leb 1 more (omega (arith, room))) (λ word f. over_pure _)
    (over_take _ _ _ _ _ _ _ (le-leb 2 more (omega (arith, room))) (λ at f. over_map _ _ _ (annot_behind_over left more at room)) (over_pure _))

pub mods_over : (words : List (ℕ × Word)) (left more : ℕ) → 3 ≤ more → Over (mods words left) (mods words more)
unfolding mods
mods_over words left more room = over_turns _ _ (next_mod_over words left more room) no_mods

-- ---- declarators

module _ (init : ℕ → Rule FoundInit) (init_over : (left more : ℕ) → left + 5 ≤ more → Over (init left) (init more)) where
  pub decl_behind_over : (left more : ℕ) (all : Shared) (name : Ident) → 1 ≤ left → left + 5 ≤ more → Over (decl_behind init left all name) (decl_behind init more all name)
  unfolding decl_behind
  decl_behind_over left more all name one room = over_token _ _ _ _ _ (λ assign. over_map _ _ _ (init_over (left - 1) (more - 1) (omega (arith, one, room)))) (over_pure _)

  pub decl_over : (left more : ℕ) (all : Shared) → 1 ≤ left → left + 5 ≤ more → Over (decl init left all) (decl init more all)
  unfolding decl
  decl_over left more all one room = over_token _ _ _ _ _ (λ name. decl_behind_over left more all name one room) over_stop

  pub decls_over : (left more : ℕ) (all : Shared) (name : Ident) → 1 ≤ left → left + 5 ≤ more → Over (decls init left all name) (decls init more all name)
  unfolding decls
  decls_over left more all name one room = over_then _ _ _ _ (decl_behind_over left more all name one room) (λ first. more_over _ _ with_decl (one_decl first) (decl_over left more all one room))

-- ---- parameters: room for one is at most 5

pub param_over : (left more : ℕ) → 5 ≤ more → Over (param left) (param more)
unfolding param
param_over left more room = over_then _ _ _ _ (mods_over local_words (left - 1) (more - 1) (omega (arith, room)))
    (λ found. over_then _ _ _ _ (type_over (left - 1) (more - 1) (omega (arith, room))) (λ ty. over_last _ _))

some_params_over : (left more : ℕ) → 5 ≤ more → Over (some_params left) (some_params more)
unfolding some_params
some_params_over left more room = over_then _ _ _ _ (param_over left more room) (λ first. more_over _ _ with_param (one_param first) (param_over left more room))

pub params_over : (left more : ℕ) → 5 ≤ more → Over (params left) (params more)
unfolding params
params_over left more room = over_token _ _ _ _ _ (λ right. over_pure _) (over_then _ _ _ _ (some_params_over left more room) (λ found. over_last _ _))

-- ---- what a method throws

thrown_over : Over a_thrown a_thrown
unfolding a_thrown
thrown_over = over_last _ _

pub throws_over : Over throws throws
unfolding throws
throws_over = over_token _ _ _ _ _ (λ span. over_token _ _ _ _ _ (λ first. more_over _ _ nothing_more (nothing first) thrown_over) over_stop) (over_pure _)
