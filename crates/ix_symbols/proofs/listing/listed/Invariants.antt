use Rattle.std.proofs.Common.{◌≡◌, drop, ◌++◌}
use Rattle.ix_symbols.proofs.listing.listed.Given as goal

abbrev pub invariant-loop-error : goal.invariant-loop-error
invariant-loop-error l = l.list ++ drop l.error-index l.errors ≡ l.errors
