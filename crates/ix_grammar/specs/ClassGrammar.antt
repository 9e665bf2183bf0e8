-- Members, classes and whole sources (JLS 7.3 to 7.5, 8.1, 8.3, 8.4, 8.8), as relations between lists of tokens and what they are.
use Rattle.std.specs.Prelude.{ℕ, ◌+◌, max, Bool, false, true, List, [], ◌∷◌, ◌++◌, Option, Some, None}
use Rattle.ix_text.specs.declared.span.Span.{Span}
use Rattle.ix_lexer.specs.declared.token.Token.{Token}
use Rattle.ix_lexer.specs.declared.fixed.TheConstants.{CLASS, EXTENDS, FINAL, IMPORT, PACKAGE, PUBLIC, STATIC, SUPER, VOID, OPEN_BRACE, CLOSE_BRACE, SEMICOLON, DOT, TIMES}
use Rattle.ix_tree.specs.declared.annot.Ident.{Ident}
use Rattle.ix_tree.specs.declared.annot.TypeTree.{TypeTree}
use Rattle.ix_tree.specs.declared.decl.LocalDecl.{LocalDecl}
use Rattle.ix_tree.specs.declared.decl.Member.{Member}
use Rattle.ix_tree.specs.declared.decl.Member.TheVariants.{Field, Method}
use Rattle.ix_grammar.specs.Nodes.{across}
use Rattle.ix_grammar.specs.declared.classes.Behind.{Behind}
use Rattle.ix_grammar.specs.declared.classes.Body.{Body}
use Rattle.ix_grammar.specs.declared.classes.Classes.{Classes}
use Rattle.ix_grammar.specs.declared.classes.FoundClass.{FoundClass}
use Rattle.ix_grammar.specs.declared.classes.FoundUnit.{FoundUnit}
use Rattle.ix_grammar.specs.declared.classes.Members.{Members}
use Rattle.ix_grammar.specs.declared.classes.Stmts.{Stmts}
use Rattle.ix_grammar.specs.declared.declarations.FoundMods.{FoundMods}
use Rattle.ix_grammar.specs.declared.declarations.Params.{Params}
use Rattle.ix_grammar.specs.declared.found.Args.{Args}
use Rattle.ix_grammar.specs.declared.found.FoundDecls.{FoundDecls}
use Rattle.ix_grammar.specs.declared.found.FoundInit.{FoundInit}
use Rattle.ix_grammar.specs.declared.found.FoundStmt.{FoundStmt}
use Rattle.ix_grammar.specs.declared.found.FoundType.{FoundType}
use Rattle.ix_grammar.specs.Patterns.{sign, name_token}
use Rattle.ix_grammar.specs.Lists.{IsRepeated}
use Rattle.ix_grammar.specs.TypeGrammar.{IsType}
use Rattle.ix_grammar.specs.DeclGrammar.{earlier, begins, IsMods, member_words, IsDecls, IsParams, IsThrows, shared, nothing_more}

-- What is in the grammar of initialisers, of argument lists with their parentheses, and of statements of a block.
pub record Parts : Type 1 where
  pub IsInit : List Token → FoundInit → Type 0
  pub IsArgs : List Token → Args → Type 0
  pub IsStmt : List Token → FoundStmt → Type 0

-- ---- bodies

abbrev pub no_stmts : Stmts
no_stmts = record { stmts = []; height = 0 }

abbrev pub with_stmt : Stmts → FoundStmt → Stmts
with_stmt stmts found = record { stmts = stmts.stmts ++ found.stmt ∷ []; height = max stmts.height found.height }

abbrev pub body_of : Stmts → Span → Body
body_of stmts right = record { parent_args = None; stmts = stmts.stmts; height = stmts.height; end = right }

abbrev pub body_with : Args → Stmts → Span → Body
body_with args stmts right = record { parent_args = Some args.items; stmts = stmts.stmts; height = max args.height stmts.height; end = right }

-- {BStmt}
abbrev pub IsStmts : Parts → List Token → Stmts → Type 0
IsStmts parts = IsRepeated parts.IsStmt no_stmts with_stmt

-- "{" {BStmt} "}", or of a constructor "{" ["super" Args ";"] {BStmt} "}"
pub data IsBody (parts : Parts) : Bool → List Token → Body → Type 0 where
  block : {constructor : Bool} {tokens : List Token} {stmts : Stmts} (left right : Span) → IsStmts parts tokens stmts
      → IsBody parts constructor (sign OPEN_BRACE left ∷ (tokens ++ sign CLOSE_BRACE right ∷ [])) (body_of stmts right)
  with_super : {before tokens : List Token} {args : Args} {stmts : Stmts} (left super end right : Span) → parts.IsArgs before args → IsStmts parts tokens stmts
      → IsBody parts true (sign OPEN_BRACE left ∷ sign SUPER super ∷ (before ++ sign SEMICOLON end ∷ (tokens ++ sign CLOSE_BRACE right ∷ []))) (body_with args stmts right)

-- ---- members

-- Params Throws Body
pub data IsBehind (parts : Parts) (constructor : Bool) : List Token → Behind → Type 0 where
  behind : {first second third : List Token} {params : Params} {names : Unit {0}} {body : Body} → IsParams first params → IsThrows second names → IsBody parts constructor third body
      → IsBehind parts constructor (first ++ (second ++ third)) (record { params = params; body = body })

abbrev pub result_height : Option FoundType → ℕ
result_height None = 0
result_height (Some ty) = ty.height

abbrev pub result_tree : Option FoundType → Option TypeTree
result_tree None = None
result_tree (Some ty) = Some ty.ty

-- A method or a constructor that begins there; a name has height 1.
abbrev pub method_of : Span → FoundMods → Option FoundType → Bool → Ident → Behind → Members
method_of start mods result constructor name rest = record {
  members = Method (record {
    mods = mods.mods;
    result = result_tree result;
    constructor = constructor;
    name = name;
    params = rest.params.params;
    parent_args = rest.body.parent_args;
    body = rest.body.stmts;
    span = across start rest.body.end;
  }) ∷ [];
  height = 1 + max (max (max mods.height (result_height result)) 1) (max rest.params.height rest.body.height);
}

abbrev pub fields : List LocalDecl → List Member
fields [] = []
fields (decl ∷ decls) = Field decl ∷ fields decls

abbrev pub fields_of : FoundDecls → Members
fields_of found = record { members = fields found.decls; height = found.height }

-- Member = Mods Type Decls ";" | Mods (Type | "void") Ident Params Throws Block | Mods Ident Params Throws "{" ["super" Args ";"] {BStmt} "}"
pub data IsMember (parts : Parts) : List Token → Members → Type 0 where
  some_fields : {first second third : List Token} {mods : FoundMods} {ty : FoundType} {decls : FoundDecls} (end : Span)
      → IsMods member_words first mods → IsType second ty → IsDecls parts.IsInit (shared mods ty) third decls
      → IsMember parts (first ++ (second ++ (third ++ sign SEMICOLON end ∷ []))) (fields_of decls)
  method : {first second third : List Token} {mods : FoundMods} {ty : FoundType} {rest : Behind} (name : Ident)
      → IsMods member_words first mods → IsType second ty → IsBehind parts false third rest
      → IsMember parts (first ++ (second ++ name_token name ∷ third)) (method_of (begins mods.first ty.ty.span) mods (Some ty) false name rest)
  void_method : {first second : List Token} {mods : FoundMods} {rest : Behind} (void : Span) (name : Ident)
      → IsMods member_words first mods → IsBehind parts false second rest
      → IsMember parts (first ++ sign VOID void ∷ name_token name ∷ second) (method_of (begins mods.first void) mods None false name rest)
  constructor_of : {first second : List Token} {mods : FoundMods} {rest : Behind} (name : Ident)
      → IsMods member_words first mods → IsBehind parts true second rest
      → IsMember parts (first ++ name_token name ∷ second) (method_of (begins mods.first name.span) mods None true name rest)

abbrev pub no_members : Members
no_members = record { members = []; height = 0 }

abbrev pub with_members : Members → Members → Members
with_members before found = record { members = before.members ++ found.members; height = max before.height found.height }

-- ---- classes

pub data IsClassWord : List Token → Span → Type 0 where
  public : (span : Span) → IsClassWord (sign PUBLIC span ∷ []) span
  final : (span : Span) → IsClassWord (sign FINAL span ∷ []) span

-- {"public" | "final"}, with the place of the first one
abbrev pub IsClassWords : List Token → Option Span → Type 0
IsClassWords = IsRepeated IsClassWord None earlier

-- ["extends" Ident]
pub data IsParent : List Token → Option Ident → Type 0 where
  none : IsParent [] None
  extends : (span : Span) (name : Ident) → IsParent (sign EXTENDS span ∷ name_token name ∷ []) (Some name)

-- A class that begins there; its name has height 1.
abbrev pub class_of : Span → Ident → Option Ident → Members → Span → FoundClass
class_of start name parent members right = record {
  class = record { name = name; parent = parent; members = members.members; span = across start right };
  height = 1 + max 1 members.height;
}

-- Class = {"public" | "final"} "class" Ident ["extends" Ident] "{" {Member} "}"
pub data IsClass (parts : Parts) : List Token → FoundClass → Type 0 where
  class : {first second third : List Token} {start : Option Span} {parent : Option Ident} {members : Members} (span : Span) (name : Ident) (left right : Span)
      → IsClassWords first start → IsParent second parent → IsRepeated (IsMember parts) no_members with_members third members
      → IsClass parts (first ++ sign CLASS span ∷ name_token name ∷ (second ++ sign OPEN_BRACE left ∷ (third ++ sign CLOSE_BRACE right ∷ [])))
      (class_of (begins start span) name parent members right)

abbrev pub no_classes : Classes
no_classes = record { classes = []; height = 0 }

abbrev pub with_class : Classes → FoundClass → Classes
with_class classes found = record { classes = classes.classes ++ found.class ∷ []; height = max classes.height found.height }

-- ---- whole sources; package and import lines leave no node

-- "." Ident
pub data IsDotName : List Token → Ident → Type 0 where
  dot_name : (dot : Span) (name : Ident) → IsDotName (sign DOT dot ∷ name_token name ∷ []) name

-- Dotted = Ident {"." Ident}
pub data IsDotted : List Token → Type 0 where
  dotted : {tokens : List Token} {names : Unit {0}} (name : Ident) → IsRepeated IsDotName tt nothing_more tokens names → IsDotted (name_token name ∷ tokens)

-- ["package" Dotted ";"]
pub data IsPackage : List Token → Unit {0} → Type 0 where
  none : IsPackage [] tt
  package_line : {tokens : List Token} (span end : Span) → IsDotted tokens → IsPackage (sign PACKAGE span ∷ (tokens ++ sign SEMICOLON end ∷ [])) tt

-- Dotted ["." "*"] ";"
pub data IsImported : List Token → Type 0 where
  one : {tokens : List Token} (end : Span) → IsDotted tokens → IsImported (tokens ++ sign SEMICOLON end ∷ [])
  each : {tokens : List Token} (dot times end : Span) → IsDotted tokens → IsImported (tokens ++ sign DOT dot ∷ sign TIMES times ∷ sign SEMICOLON end ∷ [])

-- "import" ["static"] Dotted ["." "*"] ";"
pub data IsImport : List Token → Unit {0} → Type 0 where
  plain : {tokens : List Token} (span : Span) → IsImported tokens → IsImport (sign IMPORT span ∷ tokens) tt
  static : {tokens : List Token} (span static : Span) → IsImported tokens → IsImport (sign IMPORT span ∷ sign STATIC static ∷ tokens) tt

abbrev pub unit_of : Classes → FoundUnit
unit_of classes = record { unit = record { classes = classes.classes }; height = 1 + classes.height }

-- Program = ["package" Dotted ";"] {"import" ["static"] Dotted ["." "*"] ";"} {Class}
pub data IsProgram (parts : Parts) : List Token → FoundUnit → Type 0 where
  program : {first second third : List Token} {name imports : Unit {0}} {classes : Classes} → IsPackage first name
      → IsRepeated IsImport tt nothing_more second imports → IsRepeated (IsClass parts) no_classes with_class third classes
      → IsProgram parts (first ++ (second ++ third)) (unit_of classes)
