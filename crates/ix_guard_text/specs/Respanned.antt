-- Tokens at other places.
use Rattle.std.specs.Prelude.{ℕ, suc, List, [], ◌∷◌}
use Rattle.ix_text.specs.declared.span.Span.{Span}
use Rattle.ix_lexer.specs.declared.token.Token.{Token}

-- a place for each number
abbrev pub Places : Type 0
Places = ℕ → Span

-- the places behind the first one
abbrev pub next : Places → Places
next at n = at (suc n)

-- the places behind those of so many tokens
abbrev pub behind : List Token → Places → Places
behind [] at = at
behind (token ∷ tokens) at = behind tokens (next at)

-- the tokens at these places, in their order
abbrev pub respanned : Places → List Token → List Token
respanned at [] = []
respanned at (token ∷ tokens) = record { kind = token.kind; span = at 0 } ∷ respanned (next at) tokens
