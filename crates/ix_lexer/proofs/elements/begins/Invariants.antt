use Rattle.std.proofs.Common.{◌≡◌, ◌+◌, length}
use Rattle.ix_lexer.specs.Scan as spec
use Rattle.ix_lexer.proofs.elements.begins.Given as goal

abbrev pub invariant-loop-sign : goal.invariant-loop-sign
invariant-loop-sign l = record {
  reads : spec.begins l.sign l.text ≡ spec.begins l.initial.sign l.initial.text;
  within : length l.sign + length l.initial.text ≡ length l.text + length l.initial.sign;
}

abbrev pub decreases-loop-sign : goal.decreases-loop-sign
decreases-loop-sign l = length l.sign
