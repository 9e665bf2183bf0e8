use Rattle.std.proofs.Common.{◌≡◌, ◌++◌, drop}
use Rattle.ix_core.specs.declared.error.Subject.TheVariants.{Element}
use Rattle.ix_store.specs.StoredFacts.{stored}
use Rattle.ix_errors.specs.Refusals.{refusals}
use Rattle.ix_errors.specs.Lists.{zero_fails}
use Rattle.ix_errors.proofs.accesses.push_refused_zeros.Given as goal

abbrev pub invariant-loop-rank : goal.invariant-loop-rank
invariant-loop-rank l =
    l.out.items ++ refusals (zero_fails (stored l.store) l.size) 16 l.place Element l.rank (drop l.rank l.claims)
    ≡ l.fn.out.items ++ refusals (zero_fails (stored l.store) l.size) 16 l.place Element 0 l.claims
