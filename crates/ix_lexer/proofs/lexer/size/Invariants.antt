use Rattle.std.proofs.Common.{◌≡◌, ◌+◌, length}
use Rattle.ix_lexer.specs.Tokens as spec
use Rattle.ix_lexer.proofs.lexer.size.Given as goal

abbrev pub invariant-loop-text : goal.invariant-loop-text
invariant-loop-text l = l.size + spec.size l.text ≡ spec.size l.initial.text

abbrev pub decreases-loop-text : goal.decreases-loop-text
decreases-loop-text l = length l.text
