-- How statements are read (JLS 14), with one token in hand. The number is the height that is left for the statement.
use Rattle.std.specs.Prelude.{ℕ, zero, suc, ◌-◌, nat_le, Bool, true, false, if◌then◌else◌, List, Option, Some, None}
use Rattle.ix_text.specs.declared.span.Span.{Span}
use Rattle.ix_lexer.specs.declared.token.Token.{Token}
use Rattle.ix_lexer.specs.declared.token.TokenKind.{TokenKind}
use Rattle.ix_lexer.specs.declared.token.TokenKind.TheVariants as k
use Rattle.ix_lexer.specs.declared.fixed.TheConstants.{IF, ELSE, WHILE, DO, FOR, BREAK, CONTINUE, RETURN, THROW, NEW, FINAL, INT, BOOLEAN, AT, DOT, SEMICOLON, OPEN_PAREN, CLOSE_PAREN, OPEN_BRACE, OPEN_BRACKET, CLOSE_BRACKET}
use Rattle.ix_tree.specs.declared.annot.Ident.{Ident}
use Rattle.ix_tree.specs.declared.annot.BaseTree.TheVariants.{Int, Boolean, Named}
use Rattle.ix_tree.specs.declared.stmt.StmtKind.TheVariants as s
use Rattle.ix_grammar.specs.Nodes.{across}
use Rattle.ix_grammar.specs.declared.classes.Stmts.{Stmts}
use Rattle.ix_grammar.specs.declared.declarations.FoundMods.{FoundMods}
use Rattle.ix_grammar.specs.declared.declarations.Word.TheVariants.{Final}
use Rattle.ix_grammar_rules.specs.declared.aims.Aim.TheVariants.{Statement}
use Rattle.ix_grammar.specs.declared.found.Found.{Found}
use Rattle.ix_grammar.specs.declared.found.FoundStmt.{FoundStmt}
use Rattle.ix_grammar.specs.declared.found.FoundType.{FoundType}
use Rattle.ix_grammar.specs.declared.found.Several.{Several}
use Rattle.ix_grammar_rules.specs.declared.begun.Begun.{Begun}
use Rattle.ix_grammar_rules.specs.declared.begun.Begun.TheVariants.{Local, Run, Print}
use Rattle.ix_grammar_rules.specs.Rule.{Rule, pure, take, bind, stop, loop, Turn, On, Done}
use Rattle.ix_grammar.specs.Patterns.{a_sign, a_name, a_text}
use Rattle.ix_grammar_rules.specs.ListRules.{more_of, braces_of}
use Rattle.ix_grammar.specs.AnnotGrammar.{no_notes}
use Rattle.ix_grammar_rules.specs.AnnotRules.{annot_behind}
use Rattle.ix_grammar.specs.TypeGrammar.{based, array_of, plain_type}
use Rattle.ix_grammar_rules.specs.TypeRules.{pairs, noted_array, type_rest, type_tree}
use Rattle.ix_grammar.specs.DeclGrammar.{no_mods, with_word, with_annot, local_words, shared}
use Rattle.ix_grammar_rules.specs.DeclRules.{next_mod, decls}
use Rattle.ix_grammar.specs.ClassGrammar.{no_stmts, with_stmt}
use Rattle.ix_grammar.specs.ExprNodes.{named, selected, element, no_exprs, with_expr}
use Rattle.ix_grammar_rules.specs.ExprRules.{below, inner, further, name_or_call, field_or_call, to_statement, expr, statement_expr, init}
use Rattle.ix_grammar.specs.StmtGrammar.{stmt_node, block_stmt, if_stmt, if_else_stmt, while_stmt, do_stmt, for_stmt, return_stmt, throw_stmt, print_stmt, run_stmt, one_run, with_run, one_expr, local_stmt, SYSTEM, OUT, PRINTLN, same_text}

-- ---- an identifier of a certain text

abbrev pub word_of : List ℕ → TokenKind → Span → Option Ident
word_of text (k.Ident found) span = if same_text found text then Some (record { text = found; span = span }) else None
word_of text _ span = None

abbrev pub a_word : List ℕ → Token → Option Ident
a_word text token = word_of text token.kind token.span

-- ---- declarations of locals

-- behind the first name
unfoldable pub declared : ℕ → FoundMods → FoundType → Ident → Rule Begun
declared left mods ty x = bind (decls init (left - 1) (shared mods ty) x) (λ found. pure (Local mods ty found))

-- behind the type
unfoldable pub named_type : ℕ → FoundMods → FoundType → Rule Begun
named_type left mods ty = take a_name true (declared left mods ty) stop

-- behind the modifiers
unfoldable pub typed : ℕ → FoundMods → Rule Begun
typed left mods = bind (type_tree (left - 2)) (named_type left mods)

-- behind the first modifier
unfoldable pub modified : ℕ → FoundMods → Rule Begun
modified left first = bind (loop (next_mod local_words (left - 2)) first) (typed left)

-- a declaration that begins with no name
unfoldable pub local_or : Bool → ℕ → Rule Begun → Rule Begun
local_or false left other = other
local_or true left other =
    take (a_sign FINAL) (nat_le 3 left) (λ span. modified left (with_word no_mods Final span))
    (take (a_sign AT) (nat_le 4 left) (λ at. bind (annot_behind (left - 2) at) (λ annot. modified left (with_annot no_mods annot)))
    (take (a_sign INT) (nat_le 3 left) (λ span. bind (type_rest (left - 2) (based Int span)) (named_type left no_mods))
    (take (a_sign BOOLEAN) (nat_le 3 left) (λ span. bind (type_rest (left - 2) (based Boolean span)) (named_type left no_mods)) other)))

-- ---- expressions

-- behind the first part of an expression
unfoldable pub chain : ℕ → Found → Rule Begun
chain left f = bind (loop (further (below (left - 1)) Statement (left - 1)) f) (λ found. bind (to_statement (below (left - 1)) (left - 1) found found.form) (λ g. pure (Run g)))

unfoldable pub go_on : ℕ → Turn Found Found → Rule Begun
go_on left (On f) = chain left f
go_on left (Done f) = stop

-- behind an expression, a dot and a name
unfoldable pub field : ℕ → Found → Ident → Rule Begun
field left f x = bind (field_or_call (below (left - 1)) Statement (left - 1) f x) (go_on left)

-- behind a name that begins an expression
unfoldable pub run_named : ℕ → Ident → Rule Begun
run_named left x = bind (name_or_call (below (left - 1)) Statement (left - 1) x) (chain left)

-- where it isn't so, the next token of an expression is too high
unfoldable pub guarded : Bool → Rule Found → Rule Found
guarded true rule = rule
guarded false rule = expr 0

-- Behind a name and a bracket: the index, where a type would have the other bracket. The assignment that an element begins is 1 higher than
-- the declaration that a type begins.
unfoldable pub indexed : ℕ → Ident → Rule Begun
indexed left x = bind (guarded (nat_le 5 left) (inner (below (left - 1)) 1)) (λ g. take (a_sign CLOSE_BRACKET) true (λ right. chain left (element (named x) g right)) stop)

-- behind a name: it begins a type, or an expression
unfoldable pub named_first : Bool → ℕ → Ident → Rule Begun
named_first false left x = run_named left x
named_first true left x =
    take (a_sign OPEN_BRACKET) (nat_le 4 left)
    (λ open_at. take (a_sign CLOSE_BRACKET) true (λ right. bind (pairs 1 right) (λ brackets. named_type left no_mods (array_of (based (Named x) x.span) no_notes brackets))) (indexed left x))
    (take (a_sign AT) (nat_le 5 left) (λ at. bind (noted_array (left - 2) (based (Named x) x.span) at) (named_type left no_mods))
    (take a_name (nat_le 4 left) (declared left no_mods (plain_type (based (Named x) x.span)))
    (run_named left x)))

-- ---- the print statement, whose first tokens could begin an expression: what that is higher counts at the token that tells the two apart

unfoldable pub println_part : ℕ → Ident → Ident → Ident → Rule Begun
println_part left system out println = take (a_sign OPEN_PAREN) true (λ open_at. pure (Print system.span)) (field left (selected (named system) out) println)

unfoldable pub out_part : ℕ → Ident → Ident → Rule Begun
out_part left system out =
    take (a_sign DOT) true (λ dot. take (a_word PRINTLN) true (println_part left system out) (take a_name (nat_le 5 left) (field left (selected (named system) out)) stop))
    (field left (named system) out)

unfoldable pub system_part : Bool → ℕ → Ident → Rule Begun
system_part locals left system =
    take (a_sign DOT) true (λ dot. take (a_word OUT) true (out_part left system) (take a_name (nat_le 4 left) (field left (named system)) stop))
    (named_first locals left system)

unfoldable pub print_or : Bool → Bool → ℕ → Rule Begun → Rule Begun
print_or false locals left other = other
print_or true locals left other = take (a_word SYSTEM) (nat_le 2 left) (system_part locals left) other

-- A statement that begins with no word of its own: whether it may be the print statement, and whether it may declare locals.
unfoldable pub begun : Bool → Bool → ℕ → Rule Begun
begun prints locals left =
    local_or locals left (print_or prints locals left (take a_name (nat_le 3 left) (named_first locals left) (bind (statement_expr (left - 1)) (λ f. pure (Run f)))))

unfoldable pub finished : ℕ → Begun → Rule FoundStmt
finished left (Local mods ty found) = take (a_sign SEMICOLON) true (λ end. pure (local_stmt mods ty found end)) stop
finished left (Run f) = take (a_sign SEMICOLON) true (λ end. pure (run_stmt f end)) stop
finished left (Print system) = bind (expr (left - 1)) (λ f. take (a_sign CLOSE_PAREN) true (λ right. take (a_sign SEMICOLON) true (λ end. pure (print_stmt system f end)) stop) stop)

-- ---- statements with a word of their own; the parts are statements of a height that is one lower

pub record StmtParts : Type 1 where
  -- a statement, and a statement of a block
  pub plain : Rule FoundStmt
  pub block : Rule FoundStmt

-- "(" Expr ")"
unfoldable pub condition : ℕ → Rule Found
condition left = take (a_sign OPEN_PAREN) true (λ open_at. bind (expr (left - 1)) (λ f. take (a_sign CLOSE_PAREN) true (λ right. pure f) stop)) stop

unfoldable pub else_part : StmtParts → Span → Found → FoundStmt → Rule FoundStmt
else_part parts start f found = take (a_sign ELSE) true (λ middle. bind parts.plain (λ other. pure (if_else_stmt start f found other))) (pure (if_stmt start f found))

unfoldable pub if_rule : StmtParts → ℕ → Span → Rule FoundStmt
if_rule parts left start = bind (condition left) (λ f. bind parts.plain (else_part parts start f))

unfoldable pub while_rule : StmtParts → ℕ → Span → Rule FoundStmt
while_rule parts left start = bind (condition left) (λ f. bind parts.plain (λ found. pure (while_stmt start f found)))

unfoldable pub do_rule : StmtParts → ℕ → Span → Rule FoundStmt
do_rule parts left start =
    bind parts.plain (λ found. take (a_sign WHILE) true (λ middle. bind (condition left) (λ f. take (a_sign SEMICOLON) true (λ end. pure (do_stmt start found f end)) stop)) stop)

-- ---- `for`

unfoldable pub for_body : StmtParts → Span → Stmts → Option Found → Several → Rule FoundStmt
for_body parts start first cond update = bind parts.plain (λ found. pure (for_stmt start first cond update found))

-- behind the second semicolon
unfoldable pub for_update : StmtParts → ℕ → Span → Stmts → Option Found → Rule FoundStmt
for_update parts left start first cond =
    take (a_sign CLOSE_PAREN) true (λ right. for_body parts start first cond no_exprs)
    (bind (statement_expr (left - 1)) (λ f. bind (more_of (statement_expr (left - 1)) with_expr (one_expr f)) (λ update.
    take (a_sign CLOSE_PAREN) true (λ right. for_body parts start first cond update) stop)))

-- behind the first semicolon
unfoldable pub for_condition : StmtParts → ℕ → Span → Stmts → Rule FoundStmt
for_condition parts left start first =
    take (a_sign SEMICOLON) true (λ end. for_update parts left start first None)
    (bind (expr (left - 1)) (λ f. take (a_sign SEMICOLON) true (λ end. for_update parts left start first (Some f)) stop))

-- the first part, whose statements are one lower
unfoldable pub for_part : ℕ → Begun → Rule Stmts
for_part left (Local mods ty found) = pure (with_stmt no_stmts (local_stmt mods ty found found.end))
for_part left (Run f) = more_of (statement_expr (left - 2)) with_run (one_run f)
for_part left (Print system) = stop

unfoldable pub for_rule : StmtParts → ℕ → Span → Rule FoundStmt
for_rule parts left start = take (a_sign OPEN_PAREN) true (λ open_at.
    take (a_sign SEMICOLON) true (λ end. for_condition parts left start no_stmts)
    (bind (begun false true (left - 1)) (λ first. bind (for_part left first) (λ stmts. take (a_sign SEMICOLON) true (λ end. for_condition parts left start stmts) stop))))
    stop

-- ---- the others

-- [Expr] ";"
unfoldable pub return_rule : ℕ → Span → Rule FoundStmt
return_rule left start =
    take (a_sign SEMICOLON) true (λ end. pure (return_stmt start None end))
    (bind (expr (left - 1)) (λ f. take (a_sign SEMICOLON) true (λ end. pure (return_stmt start (Some f) end)) stop))

-- ")" ";"
unfoldable pub throw_end : Span → Ident → Rule FoundStmt
throw_end start x = take (a_sign CLOSE_PAREN) true (λ right. take (a_sign SEMICOLON) true (λ end. pure (throw_stmt start x end)) stop) stop

-- "new" Ident "(" [String] ")" ";"
unfoldable pub throw_rule : Span → Rule FoundStmt
throw_rule start =
    take (a_sign NEW) true (λ middle. take a_name true (λ x. take (a_sign OPEN_PAREN) true (λ open_at. take a_text true (λ text. throw_end start x) (throw_end start x)) stop) stop) stop

unfoldable pub block_rule : StmtParts → Span → Rule FoundStmt
block_rule parts open_at = bind (braces_of parts.block with_stmt no_stmts) (λ found. pure (block_stmt open_at found.value found.span))

-- a statement, and whether it may declare locals
unfoldable pub stmt_of : StmtParts → Bool → ℕ → Rule FoundStmt
stmt_of parts locals left =
    take (a_sign OPEN_BRACE) (nat_le 1 left) (block_rule parts)
    (take (a_sign SEMICOLON) (nat_le 1 left) (λ end. pure (stmt_node s.Empty 0 end))
    (take (a_sign IF) (nat_le 2 left) (if_rule parts left)
    (take (a_sign WHILE) (nat_le 2 left) (while_rule parts left)
    (take (a_sign DO) (nat_le 2 left) (do_rule parts left)
    (take (a_sign FOR) (nat_le 2 left) (for_rule parts left)
    (take (a_sign BREAK) (nat_le 1 left) (λ start. take (a_sign SEMICOLON) true (λ end. pure (stmt_node s.Break 0 (across start end))) stop)
    (take (a_sign CONTINUE) (nat_le 1 left) (λ start. take (a_sign SEMICOLON) true (λ end. pure (stmt_node s.Continue 0 (across start end))) stop)
    (take (a_sign RETURN) (nat_le 1 left) (return_rule left)
    (take (a_sign THROW) (nat_le 2 left) throw_rule
    (bind (begun true locals left) (finished left)))))))))))

-- ---- every height

unfoldable pub stmts_below : ℕ → StmtParts
stmts_below zero = record { plain = stop; block = stop }
stmts_below (suc left) = record { plain = stmt_of (stmts_below left) false left; block = stmt_of (stmts_below left) true left }

abbrev pub stmt : ℕ → Rule FoundStmt
stmt left = stmt_of (stmts_below left) false left

abbrev pub block_statement : ℕ → Rule FoundStmt
block_statement left = stmt_of (stmts_below left) true left
