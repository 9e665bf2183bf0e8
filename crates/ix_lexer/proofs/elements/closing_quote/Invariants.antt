use Rattle.std.proofs.Common.{◌≡◌, ◌+◌, length, false}
use Rattle.ix_lexer.specs.Scan as spec
use Rattle.ix_lexer.proofs.elements.closing_quote.Given as goal

abbrev pub invariant-loop-text : goal.invariant-loop-text
invariant-loop-text l = record {
  reads : spec.closing_quote l.escaped l.before l.text ≡ spec.closing_quote false 1 l.initial.text;
  within : l.before + length l.text ≡ 1 + length l.initial.text;
}

abbrev pub decreases-loop-text : goal.decreases-loop-text
decreases-loop-text l = length l.text
