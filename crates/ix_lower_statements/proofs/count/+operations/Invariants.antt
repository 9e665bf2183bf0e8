use Rattle.std.proofs.Common.{◌≡◌, drop}
use Rattle.ix_plain.specs.Counts as spec
use Rattle.ix_lower_statements.proofs.count.+operations.Given as goal

abbrev pub invariant-count_operations-loop-item : goal.invariant-count_operations-loop-item
invariant-count_operations-loop-item l =
    spec.operations (record { items = l.block.items }) l.initial.count ≡ spec.operations (record { items = drop l.item-index l.block.items }) l.count
