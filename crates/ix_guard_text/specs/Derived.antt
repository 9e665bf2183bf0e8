-- Which trees bytes derive, up to places: whatever the number of their tokens and the height of the tree.
use Rattle.std.specs.Prelude.{◌≡◌, ℕ, List}
use Rattle.ix_lexer.specs.declared.token.Token.{Token}
use Rattle.ix_lexer.specs.Tokens.{Tokens}
use Rattle.ix_tree.specs.declared.decl.Unit.{Unit as Source}
use Rattle.ix_grammar.specs.declared.classes.FoundUnit.{FoundUnit}
use Rattle.ix_grammar.specs.SourceGrammar.{IsSource}
use Rattle.ix_guard_text.specs.Bare.{bare_source}

-- The bytes have tokens that are a source, with this tree up to places.
pub record Derives (bytes : List ℕ) (unit : Source) : Type 0 where
  pub tokens : List Token
  pub found : FoundUnit
  pub text : Tokens bytes tokens
  pub is : IsSource tokens found
  pub same : bare_source found.unit ≡ bare_source unit
