-- How modifiers, parameters and declarators are read (JLS 8.3, 8.4.1, 8.4.6, 14.4).
use Rattle.std.specs.Prelude.{ℕ, ◌-◌, nat_le, true, List}
use Rattle.ix_lexer.specs.declared.fixed.TheConstants.{AT, ASSIGN, THROWS, CLOSE_PAREN}
use Rattle.ix_tree.specs.declared.annot.Ident.{Ident}
use Rattle.ix_grammar.specs.declared.declarations.FoundDecl.{FoundDecl}
use Rattle.ix_grammar.specs.declared.declarations.FoundMods.{FoundMods}
use Rattle.ix_grammar.specs.declared.declarations.Params.{Params}
use Rattle.ix_grammar.specs.declared.declarations.Shared.{Shared}
use Rattle.ix_grammar.specs.declared.declarations.Word.{Word}
use Rattle.ix_grammar.specs.declared.found.FoundDecls.{FoundDecls}
use Rattle.ix_grammar.specs.declared.found.FoundInit.{FoundInit}
use Rattle.ix_grammar_rules.specs.Rule.{Rule, pure, take, bind, stop, loop, Turn, On, Done}
use Rattle.ix_grammar.specs.Patterns.{a_sign, a_name, one_of}
use Rattle.ix_grammar_rules.specs.ListRules.{more_of}
use Rattle.ix_grammar_rules.specs.AnnotRules.{annot_behind}
use Rattle.ix_grammar_rules.specs.TypeRules.{type_tree}
use Rattle.ix_grammar.specs.DeclGrammar.{no_mods, with_word, with_annot, local_words, shared, plain_decl, init_decl, one_decl, with_decl, no_params, one_param, with_param, nothing, nothing_more}

-- ---- modifiers; the number is the height that is left for an annotation

-- a word, an annotation, or the end
unfoldable pub next_mod : List (ℕ × Word) → ℕ → FoundMods → Rule (Turn FoundMods FoundMods)
next_mod words left found =
    take (one_of words) (nat_le 1 left) (λ word. pure (On (with_word found word.value word.span)))
    (take (a_sign AT) (nat_le 2 left) (λ at. bind (annot_behind left at) (λ annot. pure (On (with_annot found annot))))
    (pure (Done found)))

-- {Word | Annot}
unfoldable pub mods : List (ℕ × Word) → ℕ → Rule FoundMods
mods words left = loop (next_mod words left) no_mods

-- ---- declarators; the number is the height that is left for what is declared, at least 2

-- ["=" Init], behind the name
unfoldable pub decl_behind : (ℕ → Rule FoundInit) → ℕ → Shared → Ident → Rule FoundDecl
decl_behind init left all name = take (a_sign ASSIGN) true (λ assign. bind (init (left - 1)) (λ found. pure (init_decl all name found))) (pure (plain_decl all name))

-- Decl = Ident ["=" Init]
unfoldable pub decl : (ℕ → Rule FoundInit) → ℕ → Shared → Rule FoundDecl
decl init left all = take a_name true (decl_behind init left all) stop

-- Decls = Decl {"," Decl}, behind the first name
unfoldable pub decls : (ℕ → Rule FoundInit) → ℕ → Shared → Ident → Rule FoundDecls
decls init left all name = bind (decl_behind init left all name) (λ first. more_of (decl init left all) with_decl (one_decl first))

-- ---- parameters; the number is the height that is left for a parameter

-- Param = {"final" | Annot} Type Ident
unfoldable pub param : ℕ → Rule FoundDecl
param left = bind (mods local_words (left - 1)) (λ found. bind (type_tree (left - 1)) (λ ty. take a_name true (λ name. pure (plain_decl (shared found ty) name)) stop))

-- Param {"," Param}
unfoldable pub some_params : ℕ → Rule Params
some_params left = bind (param left) (λ first. more_of (param left) with_param (one_param first))

-- [Param {"," Param}] ")", behind the opening parenthesis
unfoldable pub params : ℕ → Rule Params
params left = take (a_sign CLOSE_PAREN) true (λ right. pure no_params) (bind (some_params left) (λ found. take (a_sign CLOSE_PAREN) true (λ right. pure found) stop))

-- ---- what a method throws

unfoldable pub a_thrown : Rule Ident
a_thrown = take a_name true (λ name. pure name) stop

-- Throws = ["throws" Ident {"," Ident}]
unfoldable pub throws : Rule (Unit {0})
throws = take (a_sign THROWS) true (λ span. take a_name true (λ first. more_of a_thrown nothing_more (nothing first)) stop) (pure tt)
