use Rattle.std.proofs.Common.{◌≡◌, ◌++◌, drop}
use Rattle.ix_sign.specs.RuleErrors.{this_entries}
use Rattle.ix_errors.specs.Escapes.{errors_at}
use Rattle.ix_errors.proofs.this.push_this_entries.Given as goal

abbrev pub invariant-loop-at : goal.invariant-loop-at
invariant-loop-at l = l.out.items ++ errors_at (this_entries l.done l.at (drop l.at l.entries)) ≡ l.fn.out.items ++ errors_at (this_entries l.done 0 l.entries)
