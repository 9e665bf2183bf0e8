-- The guarded text of bytes that are a source.
use Rattle.std.specs.Prelude.{◌≡◌, ◌≤◌, ℕ, List, length}
use Rattle.ix_core.specs.declared.error.Error.{Error}
use Rattle.ix_lexer.specs.declared.token.Token.{Token}
use Rattle.ix_lexer.specs.Tokens.{Tokens, most_tokens}
use Rattle.ix_tree.specs.declared.decl.Unit.{Unit as Source}
use Rattle.ix_grammar.specs.Refusals.{HasTree}
use Rattle.ix_meaning.specs.Resolved.{names, Accepts}
use Rattle.ix_guard.specs.Guards.{guarded}
use Rattle.ix_guard.specs.Trees.{guarded_tree}

-- The tokens have a tree, and its names have no errors.
pub record HaveNamedTree (tokens : List Token) : Type 0 where
  pub source : Source
  pub parsed : HasTree tokens source
  pub accepts : Accepts source

-- The bytes have tokens with such a tree.
pub record IsNamed (bytes : List ℕ) : Type 0 where
  pub tokens : List Token
  pub lexed : Tokens bytes tokens
  pub few : length tokens ≤ most_tokens
  pub tree : HaveNamedTree tokens

-- The guarded text of bytes with this tree, whose names mean what they mean in it.
abbrev pub guarded_by : List ℕ → Source → List Error → List ℕ
guarded_by bytes source errors = guarded bytes source (names source) errors

-- This is the guarded text of these bytes and errors.
pub record IsGuarded (bytes : List ℕ) (errors : List Error) (text : List ℕ) : Type 0 where
  pub named : IsNamed bytes
  pub text_is : text ≡ guarded_by bytes named.tree.source errors

-- The tree of these bytes, with the tests.
abbrev pub tree_by : {bytes : List ℕ} → IsNamed bytes → List Error → Source
tree_by named errors = guarded_tree named.tree.source (names named.tree.source) errors
