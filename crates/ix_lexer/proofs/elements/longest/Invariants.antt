use Rattle.std.proofs.Common.{◌≡◌, ◌≤◌, length, map}
use Rattle.ix_lexer.specs.Scan as spec
use Rattle.ix_lexer.proofs.elements.longest.Given as goal

abbrev pub invariant-loop-table : goal.invariant-loop-table
invariant-loop-table l = record {
  reads : spec.longest (map (λ fixed. fixed.1.now) l.table) l.best l.text ≡ spec.longest (map (λ fixed. fixed.1.now) l.initial.table) 0 l.text;
  within : l.best ≤ length l.text;
}

abbrev pub decreases-loop-table : goal.decreases-loop-table
decreases-loop-table l = length l.table
