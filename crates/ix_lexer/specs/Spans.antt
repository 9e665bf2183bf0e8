-- Where tokens and errors stand in a text.
use Rattle.std.specs.Prelude.{◌≤◌, ◌<◌, ℕ, List, [], ◌∷◌}
use Rattle.ix_lexer.specs.declared.token.Token.{Token}
use Rattle.ix_lexer.specs.declared.token.LexError.{LexError}
use Rattle.ix_lexer.specs.declared.token.LexError.TheVariants as error

-- No token is empty, each begins at the end of the one before it or later, the first not before the place `from`, and none ends behind `end`.
abbrev pub InOrder : ℕ → ℕ → List Token → Type 0
InOrder from end [] = from ≤ end
InOrder from end (token ∷ tokens) = (from ≤ token.span.from) × (token.span.from < token.span.to) × InOrder token.span.to end tokens

-- The place of an error is not behind `end`. Want of memory has no place.
abbrev pub IsWithin : ℕ → LexError → Type 0
IsWithin end (error.BadUtf8 place) = place ≤ end
IsWithin end (error.BadChar place) = place ≤ end
IsWithin end (error.OpenComment place) = place ≤ end
IsWithin end (error.OpenString place) = place ≤ end
IsWithin end (error.BadNumber place) = place ≤ end
IsWithin end (error.TooMany place) = place ≤ end
IsWithin end error.Memory = Unit {0}
