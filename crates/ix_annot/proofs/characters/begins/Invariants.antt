use Rattle.std.proofs.Common.{◌≡◌, ◌+◌, length}
use Rattle.ix_lexer.specs.Scan as spec
use Rattle.ix_annot.proofs.characters.begins.Given as goal

abbrev pub invariant-loop-front : goal.invariant-loop-front
invariant-loop-front l = record {
  reads : spec.begins l.front l.text ≡ spec.begins l.initial.front l.initial.text;
  within : length l.front + length l.initial.text ≡ length l.text + length l.initial.front;
}

abbrev pub decreases-loop-front : goal.decreases-loop-front
decreases-loop-front l = length l.front
