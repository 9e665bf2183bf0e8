-- Texts that are identifiers, and pieces of text that are read as tokens wherever they stand.
use Rattle.std.specs.Prelude.{◌≡◌, ℕ, ◌==◌, true, not, List, [], ◌∷◌, Some}
use Rattle.std.specs.List.{list_all}
use Rattle.std.specs.Str.{encode_utf8_all, all_scalars}
use Rattle.ix_lexer.specs.declared.elements.Element.TheVariants as element
use Rattle.ix_lexer.specs.declared.token.Token.{Token}
use Rattle.ix_lexer.specs.declared.token.TokenKind.{TokenKind}
use Rattle.ix_lexer.specs.declared.token.TokenKind.TheVariants as kind
use Rattle.ix_lexer.specs.Characters.{Text, backslash, starts_identifier, continues_identifier}
use Rattle.ix_lexer.specs.Tokens.{kind_of}
use Rattle.ix_guard_text.specs.Woven.{IsReadAs}

-- The bytes are those of an identifier.
pub record IsName (bytes : List ℕ) : Type 0 where
  pub start : ℕ
  pub later : Text
  pub starts : starts_identifier start ≡ true
  pub continues : list_all continues_identifier later ≡ true
  pub scalars : all_scalars (start ∷ later) ≡ true
  pub spelled : encode_utf8_all (start ∷ later) ≡ bytes
  pub kind : kind_of element.Word (start ∷ later) ≡ Some (kind.Ident bytes)

-- The bytes spell a text without a backslash that is read as tokens of these kinds whatever follows it.
pub record Piece (bytes : List ℕ) (tokens : List Token) : Type 0 where
  pub text : Text
  pub spelled : encode_utf8_all text ≡ bytes
  pub scalars : all_scalars text ≡ true
  pub plain : list_all (λ c. not (c == backslash)) text ≡ true
  pub read : (at : ℕ) (rest : Text) → IsReadAs text tokens at rest

-- an identifier's text is one
abbrev pub IsNamed : TokenKind → Type 0
IsNamed (kind.Ident text) = IsName text
IsNamed _ = Unit {0}

abbrev pub HaveNames : List Token → Type 0
HaveNames [] = Unit {0}
HaveNames (token ∷ tokens) = IsNamed token.kind × HaveNames tokens
