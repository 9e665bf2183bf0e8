-- What a rule may want of the next token, and the token that each of these is (JLS 3.8 to 3.12).
use Rattle.std.specs.Prelude.{ℕ, ℤ, Bool, true, false, if◌then◌else◌, ◌==◌, List, [], ◌∷◌, Option, Some, None}
use Rattle.ix_text.specs.declared.span.Span.{Span}
use Rattle.ix_num.specs.declared.arith.Arith.{Arith}
use Rattle.ix_num.specs.declared.arith.Arith.TheVariants as arith
use Rattle.ix_num.specs.declared.rel.Rel.TheVariants as rel
use Rattle.ix_lexer.specs.declared.token.Token.{Token}
use Rattle.ix_lexer.specs.declared.token.TokenKind.{TokenKind}
use Rattle.ix_lexer.specs.declared.token.TokenKind.TheVariants as k
use Rattle.ix_lexer.specs.declared.fixed.TheConstants.{PLUS, MINUS, NOT, FLIP, INCREMENT, DECREMENT, ASSIGN, PLUS_ASSIGN, MINUS_ASSIGN, TIMES_ASSIGN, DIVIDE_ASSIGN, REMAINDER_ASSIGN, AND_ASSIGN, OR_ASSIGN, XOR_ASSIGN, SHIFT_LEFT_ASSIGN, SHIFT_RIGHT_ASSIGN, UNSIGNED_SHIFT_RIGHT_ASSIGN, TIMES, DIVIDE, REMAINDER, SHIFT_LEFT, SHIFT_RIGHT, UNSIGNED_SHIFT_RIGHT, LESS, GREATER, LESS_OR_EQUAL, GREATER_OR_EQUAL, EQUAL, NOT_EQUAL, AND, OR, XOR, AND_ALSO, OR_ELSE}
use Rattle.ix_tree.specs.declared.annot.Ident.{Ident}
use Rattle.ix_tree.specs.declared.expr.BinaryOp.{BinaryOp}
use Rattle.ix_tree.specs.declared.expr.BinaryOp.TheVariants as binary
use Rattle.ix_tree.specs.declared.expr.UnaryOp.{UnaryOp}
use Rattle.ix_tree.specs.declared.expr.UnaryOp.TheVariants as unary
use Rattle.ix_grammar.specs.declared.found.At.{At}

-- ---- tokens

-- the keyword or sign of that number
abbrev pub sign : ℕ → Span → Token
sign number span = record { kind = k.Fixed number; span = span }

abbrev pub name_token : Ident → Token
name_token name = record { kind = k.Ident name.text; span = name.span }

abbrev pub number_token : ℤ → Span → Token
number_token n span = record { kind = k.Int n; span = span }

abbrev pub least_token : Span → Token
least_token span = record { kind = k.MinLit; span = span }

abbrev pub string_token : List ℕ → Span → Token
string_token text span = record { kind = k.Str text; span = span }

-- ---- what is wanted

abbrev pub fixed_of : ℕ → TokenKind → Span → Option Span
fixed_of n (k.Fixed m) span = if m == n then Some span else None
fixed_of n _ span = None

-- this keyword or sign
abbrev pub a_sign : ℕ → Token → Option Span
a_sign n token = fixed_of n token.kind token.span

abbrev pub name_of : TokenKind → Span → Option Ident
name_of (k.Ident text) span = Some (record { text = text; span = span })
name_of _ span = None

-- an identifier
abbrev pub a_name : Token → Option Ident
a_name token = name_of token.kind token.span

abbrev pub number_of : TokenKind → Span → Option (At ℤ)
number_of (k.Int n) span = Some (record { value = n; span = span })
number_of _ span = None

-- an int literal
abbrev pub a_number : Token → Option (At ℤ)
a_number token = number_of token.kind token.span

abbrev pub least_of : TokenKind → Span → Option Span
least_of k.MinLit span = Some span
least_of _ span = None

-- the literal 2147483648
abbrev pub a_least : Token → Option Span
a_least token = least_of token.kind token.span

abbrev pub text_of : TokenKind → Span → Option (At (List ℕ))
text_of (k.Str text) span = Some (record { value = text; span = span })
text_of _ span = None

-- a string
abbrev pub a_text : Token → Option (At (List ℕ))
a_text token = text_of token.kind token.span

-- ---- one of several signs

-- the signs of a table with what each stands for
abbrev pub row : {V : Type 0} → List (ℕ × V) → ℕ → Option V
row [] number = None
row (r ∷ table) number = if number == r.0 then Some r.1 else row table number

abbrev pub with_span : {V : Type 0} → Option V → Span → Option (At V)
with_span (Some value) span = Some (record { value = value; span = span })
with_span None span = None

abbrev pub one_of_kind : {V : Type 0} → List (ℕ × V) → TokenKind → Span → Option (At V)
one_of_kind table (k.Fixed number) span = with_span (row table number) span
one_of_kind table _ span = None

-- a sign of a table
abbrev pub one_of : {V : Type 0} → List (ℕ × V) → Token → Option (At V)
one_of table token = one_of_kind table token.kind token.span

-- ---- operators (JLS 3.12)

abbrev pub unary_signs : List (ℕ × UnaryOp)
unary_signs = (PLUS, unary.Plus) ∷ (MINUS, unary.Minus) ∷ (NOT, unary.Not) ∷ (FLIP, unary.Flip) ∷ []

-- up or down
abbrev pub step_signs : List (ℕ × Bool)
step_signs = (INCREMENT, true) ∷ (DECREMENT, false) ∷ []

abbrev pub assign_signs : List (ℕ × Option Arith)
assign_signs =
    (ASSIGN, None) ∷ (PLUS_ASSIGN, Some arith.Add) ∷ (MINUS_ASSIGN, Some arith.Sub) ∷ (TIMES_ASSIGN, Some arith.Mul) ∷ (DIVIDE_ASSIGN, Some arith.Div)
    ∷ (REMAINDER_ASSIGN, Some arith.Rem) ∷ (AND_ASSIGN, Some arith.And) ∷ (OR_ASSIGN, Some arith.Or) ∷ (XOR_ASSIGN, Some arith.Xor)
    ∷ (SHIFT_LEFT_ASSIGN, Some arith.Shl) ∷ (SHIFT_RIGHT_ASSIGN, Some arith.Shr) ∷ (UNSIGNED_SHIFT_RIGHT_ASSIGN, Some arith.Ushr) ∷ []

-- The operators with two operands, each with its level: 0 binds most tightly (JLS 15.17 to 15.24).
abbrev pub binary_signs : List (ℕ × (ℕ × BinaryOp))
binary_signs =
    (TIMES, (0, binary.Num arith.Mul)) ∷ (DIVIDE, (0, binary.Num arith.Div)) ∷ (REMAINDER, (0, binary.Num arith.Rem))
    ∷ (PLUS, (1, binary.Num arith.Add)) ∷ (MINUS, (1, binary.Num arith.Sub))
    ∷ (SHIFT_LEFT, (2, binary.Num arith.Shl)) ∷ (SHIFT_RIGHT, (2, binary.Num arith.Shr)) ∷ (UNSIGNED_SHIFT_RIGHT, (2, binary.Num arith.Ushr))
    ∷ (LESS, (3, binary.Compare rel.Lt)) ∷ (GREATER, (3, binary.Compare rel.Gt)) ∷ (LESS_OR_EQUAL, (3, binary.Compare rel.Le)) ∷ (GREATER_OR_EQUAL, (3, binary.Compare rel.Ge))
    ∷ (EQUAL, (4, binary.Compare rel.Eq)) ∷ (NOT_EQUAL, (4, binary.Compare rel.Ne))
    ∷ (AND, (5, binary.Num arith.And)) ∷ (XOR, (6, binary.Num arith.Xor)) ∷ (OR, (7, binary.Num arith.Or))
    ∷ (AND_ALSO, (8, binary.AndAlso)) ∷ (OR_ELSE, (9, binary.OrElse)) ∷ []

abbrev pub at_level : ℕ → Option (ℕ × BinaryOp) → Option BinaryOp
at_level level (Some found) = if found.0 == level then Some found.1 else None
at_level level None = None

abbrev pub operator_of : ℕ → TokenKind → Span → Option (At BinaryOp)
operator_of level (k.Fixed number) span = with_span (at_level level (row binary_signs number)) span
operator_of level _ span = None

-- an operator of that level
abbrev pub an_operator : ℕ → Token → Option (At BinaryOp)
an_operator level token = operator_of level token.kind token.span
