use Rattle.std.proofs.Common.{◌≡◌, ◌++◌, drop}
use Rattle.ix_store.specs.StoredFacts.{stored}
use Rattle.ix_errors.specs.Lists.{entry_refusals}
use Rattle.ix_errors.proofs.accesses.push_of_entries.Given as goal

abbrev pub invariant-loop-at : goal.invariant-loop-at
invariant-loop-at l =
    l.out.items ++ entry_refusals (stored l.store) l.ty l.done l.at (drop l.at l.entries) ≡ l.fn.out.items ++ entry_refusals (stored l.store) l.ty l.done 0 l.entries
