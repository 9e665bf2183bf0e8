-- In a parsed tree fields whose types stand at one place are those of one declaration.
use Rattle.std.proofs.Common.{ℕ, List, length}
use Rattle.ix_lexer.specs.declared.token.Token.{Token}
use Rattle.ix_lexer.specs.Tokens.{Tokens}
use Rattle.ix_lexer.proofs.TokensInOrder.{in_order}
use Rattle.ix_tree.specs.declared.decl.Unit.{Unit as Source}
use Rattle.ix_grammar.specs.Refusals.{HasTree}
use Rattle.ix_guard_text.specs.Joint.{IsJoint}
use Rattle.ix_guard_text.proofs.JointSources.{source_is_joint}

pub parsed_joint : (bytes : List ℕ) (tokens : List Token) (unit : Source) → Tokens bytes tokens → HasTree tokens unit → IsJoint unit
parsed_joint bytes tokens unit text (height, low) = source_is_joint 0 (length bytes) tokens (record { unit = unit; height = height }) low.0 (in_order bytes tokens text)
