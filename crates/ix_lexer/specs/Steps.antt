-- One element off the front of a text, and a whole text of characters, as the lexer goes over it.
use Rattle.std.specs.Prelude.{◌≡◌, ◌≤◌, ◌⊎◌, ℕ, List, length, Option, Some, None}
use Rattle.ix_lexer.specs.declared.elements.Element.{Element}
use Rattle.ix_lexer.specs.declared.elements.Element.TheVariants as element
use Rattle.ix_lexer.specs.declared.token.Token.{Token}
use Rattle.ix_lexer.specs.declared.token.TokenKind.{TokenKind}
use Rattle.ix_lexer.specs.declared.token.LexError.{LexError}
use Rattle.ix_lexer.specs.declared.token.LexError.TheVariants as error
use Rattle.ix_lexer.specs.Characters.{Text}
use Rattle.ix_lexer.specs.Spans.{IsWithin}
use Rattle.ix_lexer.specs.Tokens.{Longest, kind_of, Complete, most_tokens}

-- `w` is the longest element of the text: a gap where there is no kind, and else a token of this kind.
abbrev pub IsStep : Option TokenKind → Text → Text → Type 0
IsStep None w text = Longest element.Gap w text
IsStep (Some what) w text = (which : Element) × Longest which w text × (kind_of which w ≡ Some what)

abbrev pub HasTokens : Text → List Token → Type 0
HasTokens text tokens = Complete text tokens × (length tokens ≤ most_tokens)

-- Of a cause and the place of an escape the one that stands first.
abbrev pub IsFirst : LexError → Option ℕ → LexError → Type 0
IsFirst why None result = result ≡ why
IsFirst why (Some place) result = ((result ≡ why) × IsWithin place why) ⊎ ((result ≡ error.BadChar place) × (IsWithin place why → ⊥))
