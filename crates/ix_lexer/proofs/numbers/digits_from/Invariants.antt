use Rattle.std.proofs.Common.{◌≡◌, ◌≤◌, length, true}
use Rattle.ix_lexer.specs.Scan as scan
use Rattle.ix_lexer.proofs.numbers.digits_from.Given as goal

abbrev pub invariant-loop-text : goal.invariant-loop-text
invariant-loop-text l = record {
  reads : scan.digits_from l.base l.most l.wanted l.value l.text ≡ scan.digits_from l.base l.most true 0 l.initial.text;
  within : l.value ≤ l.most;
}

abbrev pub decreases-loop-text : goal.decreases-loop-text
decreases-loop-text l = length l.text
