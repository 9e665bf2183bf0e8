-- How members, classes and whole sources are read (JLS 7.3 to 7.5, 8.1, 8.3, 8.4, 8.8).
use Rattle.std.specs.Prelude.{ℕ, ◌+◌, ◌-◌, nat_le, Bool, true, false, Option, Some, None}
use Rattle.ix_text.specs.declared.span.Span.{Span}
use Rattle.ix_lexer.specs.declared.fixed.TheConstants.{CLASS, EXTENDS, FINAL, IMPORT, PACKAGE, PUBLIC, STATIC, SUPER, VOID, OPEN_PAREN, OPEN_BRACE, SEMICOLON, DOT, TIMES}
use Rattle.ix_tree.specs.declared.annot.Ident.{Ident}
use Rattle.ix_tree.specs.declared.annot.BaseTree.TheVariants.{Named}
use Rattle.ix_grammar.specs.declared.classes.Behind.{Behind}
use Rattle.ix_grammar.specs.declared.classes.Body.{Body}
use Rattle.ix_grammar.specs.declared.classes.Classes.{Classes}
use Rattle.ix_grammar.specs.declared.classes.FoundClass.{FoundClass}
use Rattle.ix_grammar.specs.declared.classes.FoundUnit.{FoundUnit}
use Rattle.ix_grammar.specs.declared.classes.Members.{Members}
use Rattle.ix_grammar.specs.declared.classes.Stmts.{Stmts}
use Rattle.ix_grammar.specs.declared.declarations.FoundMods.{FoundMods}
use Rattle.ix_grammar.specs.declared.found.Args.{Args}
use Rattle.ix_grammar.specs.declared.found.At.{At}
use Rattle.ix_grammar.specs.declared.found.FoundInit.{FoundInit}
use Rattle.ix_grammar.specs.declared.found.FoundStmt.{FoundStmt}
use Rattle.ix_grammar.specs.declared.found.FoundType.{FoundType}
use Rattle.ix_grammar_rules.specs.Rule.{Rule, pure, take, bind, stop, loop, Turn, On, Done}
use Rattle.ix_grammar.specs.Patterns.{a_sign, a_name}
use Rattle.ix_grammar_rules.specs.ListRules.{braces_of}
use Rattle.ix_grammar.specs.TypeGrammar.{based}
use Rattle.ix_grammar_rules.specs.TypeRules.{type_rest, type_tree}
use Rattle.ix_grammar.specs.DeclGrammar.{earlier, begins, member_words, shared}
use Rattle.ix_grammar_rules.specs.DeclRules.{mods, decls, params, throws}
use Rattle.ix_grammar.specs.ClassGrammar.{no_stmts, with_stmt, body_of, body_with, method_of, fields_of, no_members, with_members, class_of, no_classes, with_class, unit_of}

-- How initialisers, argument lists with their parentheses, and statements of a block are read, each with the height that is left for
-- an initialiser, an argument or a statement.
pub record PartRules : Type 1 where
  pub init : ℕ → Rule FoundInit
  pub args : ℕ → Rule Args
  pub statement : ℕ → Rule FoundStmt

-- ---- bodies; the number is the height that is left for a statement and for an argument

-- {BStmt} "}"
unfoldable pub statements : PartRules → ℕ → Rule (At Stmts)
statements rules left = braces_of (rules.statement left) with_stmt no_stmts

unfoldable pub block : PartRules → ℕ → Rule Body
block rules left = bind (statements rules left) (λ found. pure (body_of found.value found.span))

-- Args ";" {BStmt} "}", behind `super`
unfoldable pub super_behind : PartRules → ℕ → Rule Body
super_behind rules left = bind (rules.args left) (λ args. take (a_sign SEMICOLON) true (λ end. bind (statements rules left) (λ found. pure (body_with args found.value found.span))) stop)

-- Behind the opening brace: {BStmt} "}", or of a constructor ["super" Args ";"] {BStmt} "}"
unfoldable pub body : PartRules → ℕ → Bool → Rule Body
body rules left true = take (a_sign SUPER) true (λ super. super_behind rules left) (block rules left)
body rules left false = block rules left

-- ---- members; the number is the height that is left for a member

-- Params Throws Body, behind the opening parenthesis
unfoldable pub behind : PartRules → ℕ → Bool → Rule Behind
behind rules left constructor = bind (params (left - 1)) (λ params. bind throws (λ none.
    take (a_sign OPEN_BRACE) true (λ opening. bind (body rules (left - 1) constructor) (λ body. pure (record { params = params; body = body }))) stop))

-- the same with what stands before it
unfoldable pub method : PartRules → ℕ → Span → FoundMods → Option FoundType → Bool → Ident → Rule Members
method rules left start found result constructor name = bind (behind rules left constructor) (λ rest. pure (method_of start found result constructor name rest))

-- Decls ";" | Ident Params Throws Block, behind a type
unfoldable pub typed_member : PartRules → ℕ → FoundMods → FoundType → Rule Members
typed_member rules left found ty =
    take a_name (nat_le (1 + ty.height) left) (λ name.
    take (a_sign OPEN_PAREN) true (λ opening. method rules left (begins found.first ty.ty.span) found (Some ty) false name)
    (bind (decls rules.init left (shared found ty) name) (λ decls. take (a_sign SEMICOLON) true (λ end. pure (fields_of decls)) stop)))
    stop

-- Behind modifiers and a name: the rest of a constructor, or of a member whose type begins with that name and has two nodes
unfoldable pub named_member : PartRules → ℕ → FoundMods → Ident → Rule Members
named_member rules left found first =
    take (a_sign OPEN_PAREN) true (λ opening. method rules left (begins found.first first.span) found None true first)
    (bind (type_rest (left - 1) (based (Named first) first.span)) (typed_member rules left found))

-- Behind modifiers
unfoldable pub member_behind : PartRules → ℕ → FoundMods → Rule Members
member_behind rules left found =
    take (a_sign VOID) (nat_le 2 left) (λ void.
    take a_name true (λ name. take (a_sign OPEN_PAREN) true (λ opening. method rules left (begins found.first void) found None false name) stop) stop)
    (take a_name (nat_le 2 left) (named_member rules left found)
    (bind (type_tree (left - 1)) (typed_member rules left found)))

-- Member = Mods Type Decls ";" | Mods (Type | "void") Ident Params Throws Block | Mods Ident Params Throws "{" ["super" Args ";"] {BStmt} "}"
unfoldable pub member : PartRules → ℕ → Rule Members
member rules left = bind (mods member_words (left - 1)) (member_behind rules left)

-- ---- classes; the number is the height that is left for a class

-- "public", "final", or the end
unfoldable pub next_class_word : Option Span → Rule (Turn (Option Span) (Option Span))
next_class_word first =
    take (a_sign PUBLIC) true (λ span. pure (On (earlier first span)))
    (take (a_sign FINAL) true (λ span. pure (On (earlier first span)))
    (pure (Done first)))

-- {"public" | "final"}, behind those that were read
unfoldable pub class_words : Option Span → Rule (Option Span)
class_words first = loop next_class_word first

-- ["extends" Ident] "{"
unfoldable pub parent : Rule (Option Ident)
parent = take (a_sign EXTENDS) true (λ span. take a_name true (λ name. take (a_sign OPEN_BRACE) true (λ opening. pure (Some name)) stop) stop)
    (take (a_sign OPEN_BRACE) true (λ opening. pure None) stop)

-- Ident ["extends" Ident] "{" {Member} "}", behind `class`
unfoldable pub class_behind : PartRules → ℕ → Span → Rule FoundClass
class_behind rules left start = take a_name true (λ name. bind parent (λ parent.
    bind (braces_of (member rules (left - 1)) with_members no_members) (λ found. pure (class_of start name parent found.value found.span)))) stop

-- {"public" | "final"} "class" Ident ["extends" Ident] "{" {Member} "}", behind a first word
unfoldable pub worded_class : PartRules → ℕ → Span → Rule FoundClass
worded_class rules left first = bind (class_words (Some first)) (λ start. take (a_sign CLASS) true (λ span. class_behind rules left (begins start span)) stop)

-- Class, or the end. A class's name must have room.
unfoldable pub next_class : PartRules → ℕ → Classes → Rule (Turn Classes Classes)
next_class rules left classes =
    take (a_sign PUBLIC) (nat_le 2 left) (λ span. bind (worded_class rules left span) (λ found. pure (On (with_class classes found))))
    (take (a_sign FINAL) (nat_le 2 left) (λ span. bind (worded_class rules left span) (λ found. pure (On (with_class classes found))))
    (take (a_sign CLASS) (nat_le 2 left) (λ span. bind (class_behind rules left span) (λ found. pure (On (with_class classes found))))
    (pure (Done classes))))

-- ---- whole sources

-- "." Ident, or the end
unfoldable pub next_dot : Unit {0} → Rule (Turn (Unit {0}) (Unit {0}))
next_dot names = take (a_sign DOT) true (λ dot. take a_name true (λ name. pure (On tt)) stop) (pure (Done tt))

-- Dotted = Ident {"." Ident}
unfoldable pub dotted : Rule (Unit {0})
dotted = take a_name true (λ name. loop next_dot tt) stop

-- ["package" Dotted ";"]
unfoldable pub package_line : Rule (Unit {0})
package_line = take (a_sign PACKAGE) true (λ span. bind dotted (λ names. take (a_sign SEMICOLON) true (λ end. pure tt) stop)) (pure tt)

-- "." Ident, "." "*" ";", or ";"
unfoldable pub next_imported : Unit {0} → Rule (Turn (Unit {0}) (Unit {0}))
next_imported names =
    take (a_sign DOT) true (λ dot.
    take (a_sign TIMES) true (λ times. take (a_sign SEMICOLON) true (λ end. pure (Done tt)) stop)
    (take a_name true (λ name. pure (On tt)) stop))
    (take (a_sign SEMICOLON) true (λ end. pure (Done tt)) stop)

-- Dotted ["." "*"] ";"
unfoldable pub imported : Rule (Unit {0})
imported = take a_name true (λ name. loop next_imported tt) stop

-- "import" ["static"] Dotted ["." "*"] ";", or the end
unfoldable pub next_import : Unit {0} → Rule (Turn (Unit {0}) (Unit {0}))
next_import before =
    take (a_sign IMPORT) true (λ span. bind (take (a_sign STATIC) true (λ static. imported) imported) (λ names. pure (On tt)))
    (pure (Done tt))

unfoldable pub imports : Rule (Unit {0})
imports = loop next_import tt

-- Program = ["package" Dotted ";"] {"import" ["static"] Dotted ["." "*"] ";"} {Class}, with the height that is left for the whole
unfoldable pub program : PartRules → ℕ → Rule FoundUnit
program rules left = bind package_line (λ none. bind imports (λ none. bind (loop (next_class rules (left - 1)) no_classes) (λ classes. pure (unit_of classes))))
