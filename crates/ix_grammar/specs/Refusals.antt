-- What tree tokens have, and where tokens that have none are refused, and with which error: told by the grammar alone.
use Rattle.std.specs.Prelude.{◌≡◌, ◌≤◌, ◌<◌, ℕ, List, [], ◌∷◌, ◌++◌, length, take, drop}
use Rattle.ix_lexer.specs.declared.token.Token.{Token}
use Rattle.ix_tree.specs.declared.decl.Unit.{Unit as Source}
use Rattle.ix_grammar.specs.declared.classes.FoundUnit.{FoundUnit}
use Rattle.ix_grammar.specs.declared.error.ParseError.{ParseError}
use Rattle.ix_grammar.specs.declared.error.ParseError.TheVariants.{Syntax, TooDeep, Memory}
use Rattle.ix_grammar.specs.Begins.{IsLowSource}
use Rattle.ix_grammar.specs.SourceGrammar.{IsSource}

-- The tokens are a source with this tree, of a height of at most 200.
abbrev pub HasTree : List Token → Source → Type 0
HasTree tokens unit = (height : ℕ) × IsLowSource tokens (record { unit = unit; height = height })

-- These tokens begin a source of a height of at most 200.
abbrev pub BeginsLow : List Token → Type 0
BeginsLow seen = (others : List Token) × (found : FoundUnit) × IsLowSource (seen ++ others) found

-- These tokens begin a source of any height.
abbrev pub Begins : List Token → Type 0
Begins seen = (others : List Token) × (found : FoundUnit) × IsSource (seen ++ others) found

-- With the next token they begin no source of a height of at most 200; or there is no next one, and they are no such source.
abbrev pub NoMore : List Token → List Token → Type 0
NoMore seen [] = (found : FoundUnit) → IsLowSource seen found → ⊥
NoMore seen (token ∷ later) = BeginsLow (seen ++ token ∷ []) → ⊥

-- The first tokens, so many, begin a source of a height of at most 200, and no more of them do.
abbrev pub Stops : List Token → ℕ → Type 0
Stops tokens number = (number ≤ length tokens) × BeginsLow (take number tokens) × NoMore (take number tokens) (drop number tokens)

-- The error of tokens that are no source of a height of at most 200. It stands at the first token with which they begin none, or at their
-- end where all of them begin one.
pub data Refused : List Token → ParseError → Type 0 where
  -- All tokens begin a source, and are none: the error has their number.
  unfinished : {tokens : List Token} → Stops tokens (length tokens) → Refused tokens (Syntax (length tokens))
  -- With the token of that number they begin no source of any height.
  no_further : {tokens later : List Token} {token : Token} {number : ℕ} → Stops tokens number → drop number tokens ≡ token ∷ later
      → (Begins (take number tokens ++ token ∷ []) → ⊥) → Refused tokens (Syntax number)
  -- With the token that starts at that byte they begin a higher source.
  too_deep : {tokens later : List Token} {token : Token} {number : ℕ} → Stops tokens number → drop number tokens ≡ token ∷ later
      → Begins (take number tokens ++ token ∷ []) → Refused tokens (TooDeep token.span.from)

-- An error stands at one of `count` tokens or their end, or at a byte before `end`. Want of memory has no place.
abbrev pub IsWithin : ℕ → ℕ → ParseError → Type 0
IsWithin count end (Syntax number) = number ≤ count
IsWithin count end (TooDeep from) = from < end
IsWithin count end Memory = Unit {0}
