use Rattle.std.proofs.Common.{◌≡◌, ℕ, List, length, slice_get, Some}
use Rattle.ix_core.specs.Tables.{method_at}
use Rattle.ix_labels.specs.LoopLabels.{AreLoopLabels}
use Rattle.ix_store.specs.declared.store.Store.{Store}
use Rattle.ix_certify.proofs.writing.least_labels.Given as goal

abbrev pub invariant-loop-number : goal.invariant-loop-number
invariant-loop-number l =
    (length l.labels ≡ l.number) × ((number : ℕ) (stores : List Store) → slice_get l.labels number ≡ Some stores → AreLoopLabels l.program (method_at l.program number) l.profile stores)
