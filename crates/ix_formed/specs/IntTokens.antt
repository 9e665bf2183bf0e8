-- Tokens whose literals are ints (JLS 3.10.1): what the lexer gives of every text.
use Rattle.std.specs.Prelude.{◌≡◌, true, List}
use Rattle.ix_core.specs.Machine.{is_int}
use Rattle.ix_lexer.specs.declared.token.Token.{Token}
use Rattle.ix_lexer.specs.declared.token.TokenKind.{TokenKind}
use Rattle.ix_lexer.specs.declared.token.TokenKind.TheVariants as kind
use Rattle.ix_formed.specs.Additions.{AllOf}

abbrev pub IsIntOf : TokenKind → Type 0
IsIntOf (kind.Int n) = is_int n ≡ true
IsIntOf _ = Unit {0}

abbrev pub IsInt : Token → Type 0
IsInt token = IsIntOf token.kind

abbrev pub HaveInts : List Token → Type 0
HaveInts tokens = AllOf IsInt tokens
