-- Statements (JLS 14), as relations between lists of tokens and nodes with their heights.
use Rattle.std.specs.Prelude.{◌≡◌, ℕ, ◌+◌, max, Bool, true, false, ◌&&◌, ◌==◌, List, [], ◌∷◌, ◌++◌, Option, Some, None}
use Rattle.ix_text.specs.declared.span.Span.{Span}
use Rattle.ix_lexer.specs.declared.token.Token.{Token}
use Rattle.ix_lexer.specs.declared.token.TokenKind.{TokenKind}
use Rattle.ix_lexer.specs.declared.token.TokenKind.TheVariants as k
use Rattle.ix_lexer.specs.declared.fixed.TheConstants.{IF, ELSE, WHILE, DO, FOR, BREAK, CONTINUE, RETURN, THROW, NEW, DOT, SEMICOLON, OPEN_PAREN, CLOSE_PAREN, OPEN_BRACE, CLOSE_BRACE}
use Rattle.ix_tree.specs.declared.annot.Ident.{Ident}
use Rattle.ix_tree.specs.declared.expr.Expr.{Expr}
use Rattle.ix_tree.specs.declared.stmt.StmtKind.{StmtKind}
use Rattle.ix_tree.specs.declared.stmt.StmtKind.TheVariants as s
use Rattle.ix_grammar.specs.Nodes.{across}
use Rattle.ix_grammar.specs.declared.classes.Stmts.{Stmts}
use Rattle.ix_grammar.specs.declared.declarations.FoundMods.{FoundMods}
use Rattle.ix_grammar.specs.declared.found.Found.{Found}
use Rattle.ix_grammar.specs.declared.found.FoundDecls.{FoundDecls}
use Rattle.ix_grammar.specs.declared.found.FoundStmt.{FoundStmt}
use Rattle.ix_grammar.specs.declared.found.FoundType.{FoundType}
use Rattle.ix_grammar.specs.declared.found.Several.{Several}
use Rattle.ix_grammar.specs.Patterns.{sign, name_token, string_token}
use Rattle.ix_grammar.specs.Lists.{IsSeparated}
use Rattle.ix_grammar.specs.TypeGrammar.{IsType}
use Rattle.ix_grammar.specs.DeclGrammar.{begins, IsMods, local_words, IsDecls, shared}
use Rattle.ix_grammar.specs.ClassGrammar.{no_stmts, with_stmt}
use Rattle.ix_grammar.specs.ExprNodes.{no_exprs, with_expr}
use Rattle.ix_grammar.specs.ExprGrammar.{IsExpr, Whole, IsInit, IsStatementExpr}

-- ---- nodes with their heights

-- the number is the height of the highest part, 0 where there is none
abbrev pub stmt_node : StmtKind → ℕ → Span → FoundStmt
stmt_node kind parts span = record { stmt = record { kind = kind; span = span }; height = parts + 1 }

abbrev pub block_stmt : Span → Stmts → Span → FoundStmt
block_stmt left found right = stmt_node (s.Block found.stmts) found.height (across left right)

abbrev pub if_stmt : Span → Found → FoundStmt → FoundStmt
if_stmt start f found = stmt_node (s.If f.expr found.stmt None) (max f.height found.height) (across start found.stmt.span)

abbrev pub if_else_stmt : Span → Found → FoundStmt → FoundStmt → FoundStmt
if_else_stmt start f found other = stmt_node (s.If f.expr found.stmt (Some other.stmt)) (max f.height (max found.height other.height)) (across start other.stmt.span)

abbrev pub while_stmt : Span → Found → FoundStmt → FoundStmt
while_stmt start f found = stmt_node (s.While f.expr found.stmt) (max f.height found.height) (across start found.stmt.span)

abbrev pub do_stmt : Span → FoundStmt → Found → Span → FoundStmt
do_stmt start found f end = stmt_node (s.Do found.stmt f.expr) (max found.height f.height) (across start end)

-- the condition of a `for`, where there is one
abbrev pub maybe_expr : Option Found → Option Expr
maybe_expr None = None
maybe_expr (Some f) = Some f.expr

abbrev pub maybe_height : Option Found → ℕ
maybe_height None = 0
maybe_height (Some f) = f.height

abbrev pub for_stmt : Span → Stmts → Option Found → Several → FoundStmt → FoundStmt
for_stmt start first cond update found =
    stmt_node (s.For first.stmts (maybe_expr cond) update.items found.stmt) (max (max first.height (maybe_height cond)) (max update.height found.height)) (across start found.stmt.span)

abbrev pub return_stmt : Span → Option Found → Span → FoundStmt
return_stmt start value end = stmt_node (s.Return (maybe_expr value)) (maybe_height value) (across start end)

abbrev pub throw_stmt : Span → Ident → Span → FoundStmt
throw_stmt start name end = stmt_node (s.Throw name) 1 (across start end)

abbrev pub print_stmt : Span → Found → Span → FoundStmt
print_stmt start f end = stmt_node (s.Print f.expr) f.height (across start end)

abbrev pub run_stmt : Found → Span → FoundStmt
run_stmt f end = stmt_node (s.Run f.expr) f.height (across f.outer end)

-- a part of the head of a `for`, which has no semicolon of its own
abbrev pub run_part : Found → FoundStmt
run_part f = stmt_node (s.Run f.expr) f.height f.outer

abbrev pub one_run : Found → Stmts
one_run f = with_stmt no_stmts (run_part f)

abbrev pub with_run : Stmts → Found → Stmts
with_run found f = with_stmt found (run_part f)

abbrev pub one_expr : Found → Several
one_expr f = with_expr no_exprs f

-- declarations of locals from their first token to another
abbrev pub local_stmt : FoundMods → FoundType → FoundDecls → Span → FoundStmt
local_stmt mods ty found end = stmt_node (s.Local found.decls) found.height (across (begins mods.first ty.ty.span) end)

-- ---- the print statement

abbrev pub SYSTEM : List ℕ
SYSTEM = 83 ∷ 121 ∷ 115 ∷ 116 ∷ 101 ∷ 109 ∷ []

abbrev pub OUT : List ℕ
OUT = 111 ∷ 117 ∷ 116 ∷ []

abbrev pub PRINTLN : List ℕ
PRINTLN = 112 ∷ 114 ∷ 105 ∷ 110 ∷ 116 ∷ 108 ∷ 110 ∷ []

abbrev pub same_text : List ℕ → List ℕ → Bool
same_text [] [] = true
same_text (a ∷ xs) (b ∷ ys) = a == b && same_text xs ys
same_text _ _ = false

abbrev pub is_word : List ℕ → TokenKind → Bool
is_word text (k.Ident found) = same_text found text
is_word text _ = false

abbrev pub is_sign : ℕ → TokenKind → Bool
is_sign number (k.Fixed found) = found == number
is_sign number _ = false

-- The tokens begin with `System . out . println (`.
abbrev pub begins_print : List Token → Bool
begins_print (t0 ∷ t1 ∷ t2 ∷ t3 ∷ t4 ∷ t5 ∷ later) =
    is_word SYSTEM t0.kind && (is_sign DOT t1.kind && (is_word OUT t2.kind && (is_sign DOT t3.kind && (is_word PRINTLN t4.kind && is_sign OPEN_PAREN t5.kind))))
begins_print _ = false

abbrev pub word_token : List ℕ → Span → Token
word_token text span = record { kind = k.Ident text; span = span }

-- ---- the grammar

-- Local = {"final" | Annot} Type Decls
pub data IsLocal : List Token → FoundMods → FoundType → FoundDecls → Type 0 where
  local : {first second third : List Token} {mods : FoundMods} {ty : FoundType} {found : FoundDecls}
      → IsMods local_words first mods → IsType second ty → IsDecls IsInit (shared mods ty) third found
      → IsLocal (first ++ (second ++ third)) mods ty found

-- [Local | SExpr {"," SExpr}]
pub data IsForFirst : List Token → Stmts → Type 0 where
  no_first : IsForFirst [] no_stmts
  locals : {ts : List Token} {mods : FoundMods} {ty : FoundType} {found : FoundDecls} → IsLocal ts mods ty found
      → IsForFirst ts (with_stmt no_stmts (local_stmt mods ty found found.end))
  runs : {ts : List Token} {found : Stmts} → IsSeparated IsStatementExpr one_run with_run ts found → IsForFirst ts found

-- [Expr]
pub data IsMaybe : List Token → Option Found → Type 0 where
  absent : IsMaybe [] None
  present : {ts : List Token} {f : Found} → IsExpr Whole ts f → IsMaybe ts (Some f)

-- [SExpr {"," SExpr}]
pub data IsUpdate : List Token → Several → Type 0 where
  no_update : IsUpdate [] no_exprs
  updates : {ts : List Token} {found : Several} → IsSeparated IsStatementExpr one_expr with_expr ts found → IsUpdate ts found

-- [String]
pub data IsReason : List Token → Type 0 where
  no_reason : IsReason []
  reason : (text : List ℕ) (span : Span) → IsReason (string_token text span ∷ [])

mutual
  -- Stmt, and whether it ends in an `if` without `else`: an `else` belongs to the nearest `if` that has none (JLS 14.5)
  pub data IsStmt : Bool → List Token → FoundStmt → Type 0 where
    block : (left right : Span) {ts : List Token} {found : Stmts} → IsStmts ts found → IsStmt false (sign OPEN_BRACE left ∷ (ts ++ sign CLOSE_BRACE right ∷ [])) (block_stmt left found right)
    empty : (end : Span) → IsStmt false (sign SEMICOLON end ∷ []) (stmt_node s.Empty 0 end)
    if_then : (start left right : Span) {ends : Bool} {ts us : List Token} {f : Found} {found : FoundStmt} → IsExpr Whole ts f → IsStmt ends us found
        → IsStmt true (sign IF start ∷ sign OPEN_PAREN left ∷ (ts ++ sign CLOSE_PAREN right ∷ us)) (if_stmt start f found)
    if_else : (start left right middle : Span) {ends : Bool} {ts us vs : List Token} {f : Found} {found other : FoundStmt} → IsExpr Whole ts f → IsStmt false us found → IsStmt ends vs other
        → IsStmt ends (sign IF start ∷ sign OPEN_PAREN left ∷ (ts ++ sign CLOSE_PAREN right ∷ (us ++ sign ELSE middle ∷ vs))) (if_else_stmt start f found other)
    while_do : (start left right : Span) {ends : Bool} {ts us : List Token} {f : Found} {found : FoundStmt} → IsExpr Whole ts f → IsStmt ends us found
        → IsStmt ends (sign WHILE start ∷ sign OPEN_PAREN left ∷ (ts ++ sign CLOSE_PAREN right ∷ us)) (while_stmt start f found)
    do_while : (start middle left right end : Span) {ends : Bool} {ts us : List Token} {f : Found} {found : FoundStmt} → IsStmt ends us found → IsExpr Whole ts f
        → IsStmt false (sign DO start ∷ (us ++ sign WHILE middle ∷ sign OPEN_PAREN left ∷ (ts ++ sign CLOSE_PAREN right ∷ sign SEMICOLON end ∷ []))) (do_stmt start found f end)
    for_do : (start left first_end cond_end right : Span) {ends : Bool} {ts us vs ws : List Token} {first : Stmts} {cond : Option Found} {update : Several} {found : FoundStmt}
        → IsForFirst ts first → IsMaybe us cond → IsUpdate vs update → IsStmt ends ws found
        → IsStmt ends (sign FOR start ∷ sign OPEN_PAREN left ∷ (ts ++ sign SEMICOLON first_end ∷ (us ++ sign SEMICOLON cond_end ∷ (vs ++ sign CLOSE_PAREN right ∷ ws))))
        (for_stmt start first cond update found)
    breaks : (start end : Span) → IsStmt false (sign BREAK start ∷ sign SEMICOLON end ∷ []) (stmt_node s.Break 0 (across start end))
    continues : (start end : Span) → IsStmt false (sign CONTINUE start ∷ sign SEMICOLON end ∷ []) (stmt_node s.Continue 0 (across start end))
    returns : (start end : Span) {ts : List Token} {value : Option Found} → IsMaybe ts value → IsStmt false (sign RETURN start ∷ (ts ++ sign SEMICOLON end ∷ [])) (return_stmt start value end)
    throws : (start middle : Span) (x : Ident) (left right end : Span) {ts : List Token} → IsReason ts
        → IsStmt false (sign THROW start ∷ sign NEW middle ∷ name_token x ∷ sign OPEN_PAREN left ∷ (ts ++ sign CLOSE_PAREN right ∷ sign SEMICOLON end ∷ [])) (throw_stmt start x end)
    print : (system dot out second println left right end : Span) {ts : List Token} {f : Found} → IsExpr Whole ts f
        → IsStmt false (word_token SYSTEM system ∷ sign DOT dot ∷ word_token OUT out ∷ sign DOT second ∷ word_token PRINTLN println ∷ sign OPEN_PAREN left ∷ (ts ++ sign CLOSE_PAREN right ∷ sign SEMICOLON end ∷ []))
        (print_stmt system f end)
    runs : (end : Span) {ts : List Token} {f : Found} → IsStatementExpr ts f → begins_print ts ≡ false → IsStmt false (ts ++ sign SEMICOLON end ∷ []) (run_stmt f end)

  -- BStmt = Local ";" | Stmt
  pub data IsBlockStmt : List Token → FoundStmt → Type 0 where
    locals : (end : Span) {ts : List Token} {mods : FoundMods} {ty : FoundType} {found : FoundDecls} → IsLocal ts mods ty found
        → IsBlockStmt (ts ++ sign SEMICOLON end ∷ []) (local_stmt mods ty found end)
    stmt : {ends : Bool} {ts : List Token} {found : FoundStmt} → IsStmt ends ts found → IsBlockStmt ts found

  -- {BStmt}
  pub data IsStmts : List Token → Stmts → Type 0 where
    none : IsStmts [] no_stmts
    one_more : {ts us : List Token} {found : Stmts} {last : FoundStmt} → IsStmts ts found → IsBlockStmt us last → IsStmts (ts ++ us) (with_stmt found last)
