use Rattle.std.proofs.Common.{◌≡◌, ◌+◌, ◌≤◌, length}
use Rattle.ix_lexer.specs.Tokens as spec
use Rattle.ix_lexer.proofs.lexer.tokens_of.Given as goal

abbrev pub invariant-loop-text : goal.invariant-loop-text
invariant-loop-text l = record {
  reads : spec.Reads 0 l.initial.text l.tokens.items l.at l.text;
  few : length l.tokens.items ≤ spec.most_tokens;
  within : l.at + spec.size l.text ≡ spec.size l.initial.text;
}

abbrev pub decreases-loop-text : goal.decreases-loop-text
decreases-loop-text l = length l.text
