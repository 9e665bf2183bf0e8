-- The error of rules that stopped, as the code computes it.
use Rattle.std.specs.Prelude.{◌-◌, ℕ, List, [], ◌∷◌, length, Option, Some, None}
use Rattle.ix_lexer.specs.declared.token.Token.{Token}
use Rattle.ix_grammar.specs.declared.error.ParseError.{ParseError}
use Rattle.ix_grammar.specs.declared.error.ParseError.TheVariants as error
use Rattle.ix_grammar_rules.specs.declared.stop.Stop.{Stop}
use Rattle.ix_grammar_rules.specs.declared.stop.Stop.TheVariants as stop

abbrev pub first : List Token → Option Token
first [] = None
first (token ∷ later) = Some token

-- the number of the token at which these are left, from 0
abbrev pub place : List Token → List Token → ℕ
place tokens left = length tokens - length left

-- the error of a rule that stopped where these tokens are left
abbrev pub error_at : Stop → List Token → List Token → ParseError
error_at stop.Syntax tokens left = error.Syntax (place tokens left)
error_at stop.TooDeep tokens [] = error.Syntax (place tokens [])
error_at stop.TooDeep tokens (token ∷ later) = error.TooDeep token.span.from
error_at stop.Memory tokens left = error.Memory
