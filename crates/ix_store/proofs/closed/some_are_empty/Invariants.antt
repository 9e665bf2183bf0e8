use Rattle.std.proofs.Common.{◌≡◌, drop}
use Rattle.ix_store.specs.EmptyRanges.{some_empty}
use Rattle.ix_store.proofs.closed.some_are_empty.Given as goal

abbrev pub invariant-loop-fact : goal.invariant-loop-fact
invariant-loop-fact l = some_empty (drop l.fact-index l.facts) ≡ some_empty l.facts
