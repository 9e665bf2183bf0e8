use Rattle.std.proofs.Common.{◌≡◌, ◌+◌, length}
use Rattle.ix_lexer.specs.Tokens as spec
use Rattle.ix_lexer.proofs.escapes.first_escape.Given as goal

abbrev pub invariant-loop-text : goal.invariant-loop-text
invariant-loop-text l = record {
  place : spec.escape_from l.even l.at l.text ≡ spec.first_escape l.initial.text;
  within : l.at + spec.size l.text ≡ spec.size l.initial.text;
}

abbrev pub decreases-loop-text : goal.decreases-loop-text
decreases-loop-text l = length l.text
