-- What the rules of a source promise of the tokens at which they stop.
use Rattle.std.specs.Prelude.{◌≡◌, ◌≤◌, List, [], ◌∷◌, ◌++◌}
use Rattle.ix_lexer.specs.declared.token.Token.{Token}
use Rattle.ix_grammar.specs.declared.classes.FoundUnit.{FoundUnit}
use Rattle.ix_grammar.specs.SourceGrammar.{IsSource}

-- a source of a height of at most 200
abbrev pub IsLowSource : List Token → FoundUnit → Type 0
IsLowSource tokens found = IsSource tokens found × (found.height ≤ 200)

-- These tokens, which are the last ones of all, are the first ones that go on with no such source: all tokens before them, and the first
-- of them with anything behind it, are none.
abbrev pub NoneBegins : List Token → List Token → Type 0
NoneBegins tokens [] = (found : FoundUnit) → IsLowSource tokens found → ⊥
NoneBegins tokens (token ∷ later) = (seen : List Token) → tokens ≡ seen ++ token ∷ later → (others : List Token) (found : FoundUnit) → IsLowSource (seen ++ token ∷ others) found → ⊥
