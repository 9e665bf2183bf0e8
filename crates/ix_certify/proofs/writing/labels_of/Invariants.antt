use Rattle.std.proofs.Common.{◌≡◌, ◌++◌}
use Rattle.ix_certify.proofs.writing.labels_of.Given as goal

abbrev pub invariant-loop-store : goal.invariant-loop-store
invariant-loop-store l = l.stores ++ l.store-iterator.rest.items ≡ l.initial.store-iterator.rest.items
