-- The grammar of expressions as a relation between lists of tokens and nodes: one case per alternative, which splits the list (JLS 15, 19).
-- A node comes with its height, what it may be used as, and the place of its tokens, parentheses included.
use Rattle.std.specs.Prelude.{◌≡◌, ℕ, ℤ, ◌+◌, suc, Bool, true, false, List, [], ◌∷◌, ◌++◌, Option, Some}
use Rattle.ix_text.specs.declared.span.Span.{Span}
use Rattle.ix_num.specs.declared.arith.Arith.{Arith}
use Rattle.ix_lexer.specs.declared.token.Token.{Token}
use Rattle.ix_lexer.specs.declared.fixed.TheConstants.{TRUE, FALSE, NULL, THIS, NEW, MINUS, DOT, COMMA, OPEN_PAREN, CLOSE_PAREN, OPEN_BRACKET, CLOSE_BRACKET, OPEN_BRACE, CLOSE_BRACE}
use Rattle.ix_tree.specs.declared.annot.BaseTree.{BaseTree}
use Rattle.ix_grammar.specs.declared.found.At.{At}
use Rattle.ix_grammar.specs.declared.found.Notes.{Notes}
use Rattle.ix_grammar.specs.AnnotGrammar.{IsNotes}
use Rattle.ix_grammar.specs.TypeGrammar.{counted, IsBase, IsPairs}
use Rattle.ix_tree.specs.declared.annot.Ident.{Ident}
use Rattle.ix_tree.specs.declared.expr.BinaryOp.{BinaryOp}
use Rattle.ix_tree.specs.declared.expr.UnaryOp.{UnaryOp}
use Rattle.ix_tree.specs.declared.expr.ExprKind.TheVariants as e
use Rattle.ix_grammar.specs.declared.found.Args.{Args}
use Rattle.ix_grammar.specs.declared.found.Found.{Found}
use Rattle.ix_grammar.specs.declared.found.FoundInit.{FoundInit}
use Rattle.ix_grammar.specs.declared.found.FoundItems.{FoundItems}
use Rattle.ix_grammar.specs.declared.found.Several.{Several}
use Rattle.ix_grammar.specs.declared.found.Form.TheVariants.{Variable, Statement}
use Rattle.ix_grammar.specs.Patterns.{sign, name_token, number_token, least_token, row, binary_signs, unary_signs, step_signs, assign_signs}
use Rattle.ix_grammar.specs.ExprNodes.{leaf, named, within, selected, element, called, called_on, created, created_type, new_array, new_items, unary, least_int, stepped_before, stepped_after, joined, assigned, no_exprs, with_expr, all_args, value_init, items_init, no_inits, with_init, closed_by}
use Rattle.ix_grammar.specs.ExprNodes.{makes_array}

-- Level 0 is an expression without operators with two operands; each next level has those of one more level, from `*` to `||`.
pub data Kind : Type 0 where
  Primary Whole : Kind
  Level : ℕ → Kind

-- {"[" "]"}, behind one pair, whose last bracket stands there
pub data IsMorePairs (last : Span) : List Token → At ℕ → Type 0 where
  no_more : IsMorePairs last [] (counted 1 last)
  one_more : (left right : Span) {tokens : List Token} {pairs : At ℕ} → IsMorePairs last tokens pairs
      → IsMorePairs last (tokens ++ sign OPEN_BRACKET left ∷ sign CLOSE_BRACKET right ∷ []) (counted (pairs.value + 1) right)

mutual
  pub data IsExpr : Kind → List Token → Found → Type 0 where
    -- Primary = IntLit | "true" | "false" | "null" | "this" | Ident | Ident Args
    number : (n : ℤ) (s : Span) → IsExpr Primary (number_token n s ∷ []) (leaf (e.Int n) s)
    truth : (s : Span) → IsExpr Primary (sign TRUE s ∷ []) (leaf (e.Bool true) s)
    falsity : (s : Span) → IsExpr Primary (sign FALSE s ∷ []) (leaf (e.Bool false) s)
    null : (s : Span) → IsExpr Primary (sign NULL s ∷ []) (leaf e.Null s)
    this : (s : Span) → IsExpr Primary (sign THIS s ∷ []) (leaf e.This s)
    variable : (x : Ident) → IsExpr Primary (name_token x ∷ []) (named x)
    call : (x : Ident) {ts : List Token} {a : Args} → IsArgs ts a → IsExpr Primary (name_token x ∷ ts) (called x a)
    -- | "(" Expr ")"
    paren : (left right : Span) {ts : List Token} {f : Found} → IsExpr Whole ts f
        → IsExpr Primary (sign OPEN_PAREN left ∷ (ts ++ sign CLOSE_PAREN right ∷ [])) (within left right f)
    -- | Primary "." Ident | Primary "." Ident Args
    select : (dot : Span) (x : Ident) {ts : List Token} {f : Found} → IsExpr Primary ts f → IsExpr Primary (ts ++ sign DOT dot ∷ name_token x ∷ []) (selected f x)
    call_on : (dot : Span) (x : Ident) {ts us : List Token} {f : Found} {a : Args} → IsExpr Primary ts f → IsArgs us a
        → IsExpr Primary (ts ++ sign DOT dot ∷ name_token x ∷ us) (called_on f x a)
    -- | Primary "[" Expr "]", where the primary creates no array
    index : (left right : Span) {ts us : List Token} {f g : Found} → IsExpr Primary ts f → makes_array f.form ≡ false → IsExpr Whole us g
        → IsExpr Primary (ts ++ sign OPEN_BRACKET left ∷ (us ++ sign CLOSE_BRACKET right ∷ [])) (element f g right)
    -- | "new" Ident Args
    new_object : (start : Span) (x : Ident) {ts : List Token} {a : Args} → IsArgs ts a → IsExpr Primary (sign NEW start ∷ name_token x ∷ ts) (created start x a)
    -- | "new" {Annot} Base "[" Expr "]" {"[" "]"}
    array_of_length : (start left right : Span) {before base_tokens us tokens : List Token} {notes : Notes} {base : At BaseTree} {g : Found} {brackets : At ℕ}
        → IsNotes before notes → IsBase base_tokens base → IsExpr Whole us g → IsMorePairs right tokens brackets
        → IsExpr Primary (sign NEW start ∷ (before ++ (base_tokens ++ sign OPEN_BRACKET left ∷ (us ++ sign CLOSE_BRACKET right ∷ tokens))))
        (new_array start (created_type base notes brackets) g brackets.span)
    -- | "new" {Annot} Base "[" "]" {"[" "]"} Items
    array_of_items : (start open_at : Span) {before base_tokens tokens us : List Token} {notes : Notes} {base : At BaseTree} {brackets : At ℕ} {s : FoundItems}
        → IsNotes before notes → IsBase base_tokens base → IsPairs tokens brackets → IsItems us s
        → IsExpr Primary (sign NEW start ∷ (before ++ (base_tokens ++ (tokens ++ sign OPEN_BRACE open_at ∷ us))))
        (new_items start (created_type base notes brackets) s)
    -- Unary = Primary | "-" MinLit | ("+" | "-" | "!" | "~") Unary
    primary : {ts : List Token} {f : Found} → IsExpr Primary ts f → IsExpr (Level 0) ts f
    least : (minus literal : Span) → IsExpr (Level 0) (sign MINUS minus ∷ least_token literal ∷ []) (least_int minus literal)
    signed : (number : ℕ) (op : UnaryOp) (s : Span) {ts : List Token} {f : Found} → row unary_signs number ≡ Some op → IsExpr (Level 0) ts f
        → IsExpr (Level 0) (sign number s ∷ ts) (unary op s f)
    -- | ("++" | "--") Variable | Variable ("++" | "--")
    step_before : (number : ℕ) (up : Bool) (s : Span) {ts : List Token} {f : Found} → row step_signs number ≡ Some up → IsExpr Primary ts f → f.form ≡ Variable
        → IsExpr (Level 0) (sign number s ∷ ts) (stepped_before up s f)
    step_after : (number : ℕ) (up : Bool) (s : Span) {ts : List Token} {f : Found} → row step_signs number ≡ Some up → IsExpr Primary ts f → f.form ≡ Variable
        → IsExpr (Level 0) (ts ++ sign number s ∷ []) (stepped_after up f s)
    -- operators with two operands, each level to the left
    wider : {level : ℕ} {ts : List Token} {f : Found} → IsExpr (Level level) ts f → IsExpr (Level (suc level)) ts f
    operators : (level number : ℕ) (op : BinaryOp) (s : Span) {ts us : List Token} {f g : Found} → row binary_signs number ≡ Some (level, op)
        → IsExpr (Level (suc level)) ts f → IsExpr (Level level) us g
        → IsExpr (Level (suc level)) (ts ++ sign number s ∷ us) (joined op f g)
    -- Expr = Binary | Variable AssignOp Expr
    binary : {ts : List Token} {f : Found} → IsExpr (Level 10) ts f → IsExpr Whole ts f
    assign : (number : ℕ) (op : Option Arith) (s : Span) {ts us : List Token} {f g : Found} → row assign_signs number ≡ Some op
        → IsExpr Primary ts f → f.form ≡ Variable → IsExpr Whole us g
        → IsExpr Whole (ts ++ sign number s ∷ us) (assigned op f g)

  -- Expr {"," Expr}
  pub data IsExprs : List Token → Several → Type 0 where
    one : {ts : List Token} {f : Found} → IsExpr Whole ts f → IsExprs ts (with_expr no_exprs f)
    and : (comma : Span) {ts us : List Token} {s : Several} {f : Found} → IsExprs ts s → IsExpr Whole us f → IsExprs (ts ++ sign COMMA comma ∷ us) (with_expr s f)

  -- Args = "(" [Expr {"," Expr}] ")"
  pub data IsArgs : List Token → Args → Type 0 where
    no_args : (left right : Span) → IsArgs (sign OPEN_PAREN left ∷ sign CLOSE_PAREN right ∷ []) (all_args no_exprs right)
    some_args : (left right : Span) {ts : List Token} {s : Several} → IsExprs ts s → IsArgs (sign OPEN_PAREN left ∷ (ts ++ sign CLOSE_PAREN right ∷ [])) (all_args s right)

  -- Init = Expr | Items
  pub data IsInit : List Token → FoundInit → Type 0 where
    value : {ts : List Token} {f : Found} → IsExpr Whole ts f → IsInit ts (value_init f)
    entries : (open_at : Span) {ts : List Token} {s : FoundItems} → IsItems ts s → IsInit (sign OPEN_BRACE open_at ∷ ts) (items_init open_at s)

  -- Init {"," Init}
  pub data IsInits : List Token → FoundItems → Type 0 where
    first : {ts : List Token} {i : FoundInit} → IsInit ts i → IsInits ts (with_init (no_inits i.end) i)
    later : (comma : Span) {ts us : List Token} {s : FoundItems} {i : FoundInit} → IsInits ts s → IsInit us i → IsInits (ts ++ sign COMMA comma ∷ us) (with_init s i)

  -- Items, behind its opening brace: [Init {"," Init} [","]] "}"
  pub data IsItems : List Token → FoundItems → Type 0 where
    no_items : (right : Span) → IsItems (sign CLOSE_BRACE right ∷ []) (no_inits right)
    some_items : (right : Span) {ts : List Token} {s : FoundItems} → IsInits ts s → IsItems (ts ++ sign CLOSE_BRACE right ∷ []) (closed_by s right)
    with_comma : (comma right : Span) {ts : List Token} {s : FoundItems} → IsInits ts s → IsItems (ts ++ sign COMMA comma ∷ sign CLOSE_BRACE right ∷ []) (closed_by s right)

-- An expression that may stand as a statement: an assignment, a step, a call or the creation of an object.
pub record IsStatementExpr (ts : List Token) (f : Found) : Type 0 where
  pub is : IsExpr Whole ts f
  pub form : f.form ≡ Statement
