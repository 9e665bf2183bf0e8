use Rattle.std.proofs.Common.{◌≡◌, ◌+◌, length}
use Rattle.ix_lexer.specs.Scan as spec
use Rattle.ix_lexer.proofs.elements.comment_end.Given as goal

abbrev pub invariant-loop-text : goal.invariant-loop-text
invariant-loop-text l = record {
  reads : spec.comment_end l.before l.text ≡ spec.comment_end 2 l.initial.text;
  within : l.before + length l.text ≡ 2 + length l.initial.text;
}

abbrev pub decreases-loop-text : goal.decreases-loop-text
decreases-loop-text l = length l.text
