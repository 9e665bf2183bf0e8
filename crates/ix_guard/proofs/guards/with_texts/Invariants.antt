use Rattle.std.proofs.Common.{◌≡◌, ◌++◌, drop}
use Rattle.ix_guard.specs.Guards as spec
use Rattle.ix_guard.proofs.guards.with_texts.Given as goal

abbrev pub invariant-loop-insertion : goal.invariant-loop-insertion
invariant-loop-insertion l = l.out.items ++ spec.with_texts l.at l.rest (drop l.insertion-index l.insertions) ≡ spec.with_texts 0 l.bytes l.insertions
