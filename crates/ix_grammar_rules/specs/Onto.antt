-- How the code reads the members of a class: each onto those before it.
use Rattle.std.specs.Prelude.{ℕ, max, true, false, [], ◌∷◌, ◌++◌, None}
use Rattle.ix_text.specs.declared.span.Span.{Span}
use Rattle.ix_lexer.specs.declared.fixed.TheConstants.{OPEN_PAREN, SEMICOLON}
use Rattle.ix_tree.specs.declared.annot.Ident.{Ident}
use Rattle.ix_tree.specs.declared.decl.Member.TheVariants.{Field}
use Rattle.ix_grammar.specs.declared.classes.Members.{Members}
use Rattle.ix_grammar.specs.declared.declarations.FoundDecl.{FoundDecl}
use Rattle.ix_grammar.specs.declared.declarations.FoundMods.{FoundMods}
use Rattle.ix_grammar.specs.declared.declarations.Shared.{Shared}
use Rattle.ix_grammar.specs.declared.found.At.{At}
use Rattle.ix_grammar_rules.specs.Rule.{Rule, pure, take, bind, stop, Turn, On}
use Rattle.ix_grammar.specs.Patterns.{a_sign, a_name}
use Rattle.ix_grammar_rules.specs.ListRules.{more_of}
use Rattle.ix_grammar.specs.DeclGrammar.{begins}
use Rattle.ix_grammar_rules.specs.DeclRules.{decl, decl_behind, decls}
use Rattle.ix_grammar.specs.ClassGrammar.{fields_of, with_members}
use Rattle.ix_grammar_rules.specs.ClassRules.{method}
use Rattle.ix_grammar_rules.specs.ExprRules.{init}
use Rattle.ix_grammar_rules.specs.SourceRules.{parts}

-- a turn that adds what is read to the members before it
unfoldable pub onto : Members → Rule Members → Rule (Turn Members (At Members))
onto before rule = bind rule (λ found. pure (On (with_members before found)))

-- Ident Params Throws Block, behind `void`
unfoldable pub void_member : ℕ → FoundMods → Span → Rule Members
void_member left found void =
    take a_name true (λ name. take (a_sign OPEN_PAREN) true (λ opening. method parts left (begins found.first void) found None false name) stop) stop

-- Decls ";", behind the first name
unfoldable pub fields : ℕ → Shared → Ident → Rule Members
fields left all name = bind (decls init left all name) (λ decls. take (a_sign SEMICOLON) true (λ end. pure (fields_of decls)) stop)

abbrev pub with_field : Members → FoundDecl → Members
with_field before found = record { members = before.members ++ Field found.decl ∷ []; height = max before.height found.height }

-- the same, with each field added as it is read
unfoldable pub each_field : ℕ → Shared → Ident → Members → Rule (Turn Members (At Members))
each_field left all name before = bind (bind (decl_behind init left all name) (λ first. more_of (decl init left all) with_field (with_field before first))) (λ members.
    take (a_sign SEMICOLON) true (λ end. pure (On members)) stop)
