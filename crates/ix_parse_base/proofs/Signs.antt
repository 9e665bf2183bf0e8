-- Which sign of a table comes next, row by row.
use Rattle.std.proofs.Common.{◌≡◌, ◌≢◌, ℕ, Bool, true, false, cond, nat_eq, List, [], ◌∷◌, Option, Some, None, refl, ◌∙◌}
use Rattle.std.proofs.lemmas.Bool.{ne_eqb, eq-eqb}
use Rattle.ix_text.specs.declared.span.Span.{Span}
use Rattle.ix_lexer.specs.declared.token.Token.{Token}
use Rattle.ix_lexer.specs.declared.token.TokenKind.{TokenKind}
use Rattle.ix_lexer.specs.declared.token.TokenKind.TheVariants as k
use Rattle.ix_grammar.specs.declared.found.At.{At}
use Rattle.ix_tree.specs.declared.expr.BinaryOp.{BinaryOp}
use Rattle.ix_grammar.specs.Patterns.{a_sign, fixed_of, one_of, one_of_kind, row, with_span, binary_signs, an_operator, operator_of, at_level}
use Rattle.ix_grammar_rules.specs.Rule.{look}

abbrev pub either : {V : Type 0} → V → Option Span → Option (At V) → Option (At V)
either value (Some span) other = Some (record { value = value; span = span })
either value None other = other

by_number : {V : Type 0} (b : Bool) (value : V) (other : Option V) (span : Span)
    → with_span (cond b (Some value) other) span ≡ either value (cond b (Some span) None) (with_span other span)
by_number true value other span = refl
by_number false value other span = refl

by_kind : {V : Type 0} (r : ℕ × V) (table : List (ℕ × V)) (kind : TokenKind) (span : Span)
    → one_of_kind (r ∷ table) kind span ≡ either r.1 (fixed_of r.0 kind span) (one_of_kind table kind span)
by_kind r table (k.Fixed number) span = by_number (nat_eq number r.0) r.1 (row table number) span
by_kind r table _ span = refl

next_row : {V : Type 0} (r : ℕ × V) (table : List (ℕ × V)) (tokens : List Token)
    → look (one_of (r ∷ table)) tokens ≡ either r.1 (look (a_sign r.0) tokens) (look (one_of table) tokens)
next_row r table [] = refl
next_row r table (token ∷ tokens) = by_kind r table token.kind token.span

no_row : {V : Type 0} (tokens : List Token) → look (one_of {V = V} []) tokens ≡ None
no_row [] = refl
no_row (token ∷ tokens) = no_kind token.kind token.span
  where
    no_kind : {V : Type 0} (kind : TokenKind) (span : Span) → one_of_kind {V = V} [] kind span ≡ None
    no_kind (k.Fixed number) span = refl
    no_kind _ span = refl

pub here : {V : Type 0} (r : ℕ × V) (table : List (ℕ × V)) (tokens : List Token) (span : Span)
    → look (a_sign r.0) tokens ≡ Some span → look (one_of (r ∷ table)) tokens ≡ Some (record { value = r.1; span = span })
here r table tokens span is = next_row r table tokens ∙ rw is refl

pub later : {V : Type 0} (r : ℕ × V) (table : List (ℕ × V)) (tokens : List Token)
    → look (a_sign r.0) tokens ≡ None → look (one_of (r ∷ table)) tokens ≡ look (one_of table) tokens
later r table tokens is = next_row r table tokens ∙ rw is refl

pub nowhere : {V : Type 0} (tokens : List Token) → look (one_of {V = V} []) tokens ≡ None
nowhere tokens = no_row tokens

pub ruleset rows = (here, later, nowhere)

-- ---- operators of a level

abbrev of : ℕ → Option (At (ℕ × BinaryOp)) → Option (At BinaryOp)
of level None = None
of level (Some found) = with_span (at_level level (Some found.value)) found.span

same_kind : (level : ℕ) (found : Option (ℕ × BinaryOp)) (span : Span) → with_span (at_level level found) span ≡ of level (with_span found span)
same_kind level None span = refl
same_kind level (Some found) span = refl

level_of : (level : ℕ) (tokens : List Token) → look (an_operator level) tokens ≡ of level (look (one_of binary_signs) tokens)
level_of level [] = refl
level_of level (token ∷ tokens) = by level token.kind token.span
  where
    by : (level : ℕ) (kind : TokenKind) (span : Span) → operator_of level kind span ≡ of level (one_of_kind binary_signs kind span)
    by level (k.Fixed number) span = same_kind level (row binary_signs number) span
    by level _ span = refl

pub no_operator : (level : ℕ) (tokens : List Token) → look (one_of binary_signs) tokens ≡ None → look (an_operator level) tokens ≡ None
no_operator level tokens is = level_of level tokens ∙ rw is refl

pub an_other : (level : ℕ) (tokens : List Token) (found : At (ℕ × BinaryOp)) → look (one_of binary_signs) tokens ≡ Some found → found.value.0 ≢ level
    → look (an_operator level) tokens ≡ None
an_other level tokens found is another = level_of level tokens ∙ rw (is, ne_eqb found.value.0 level another) refl

pub this_one : (level : ℕ) (tokens : List Token) (found : At (ℕ × BinaryOp)) → look (one_of binary_signs) tokens ≡ Some found → found.value.0 ≡ level
    → look (an_operator level) tokens ≡ Some (record { value = found.value.1; span = found.span })
this_one level tokens found is same = level_of level tokens ∙ rw (is, eq-eqb found.value.0 level same) refl

pub ruleset of_level = (no_operator, an_other, this_one)
