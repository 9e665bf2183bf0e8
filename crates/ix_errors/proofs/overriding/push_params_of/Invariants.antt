use Rattle.std.proofs.Common.{◌≡◌, ◌++◌, drop}
use Rattle.ix_store.specs.StoredFacts.{stored}
use Rattle.ix_errors.specs.Refusals.{param_refusals}
use Rattle.ix_errors.proofs.overriding.push_params_of.Given as goal

abbrev pub invariant-loop-number : goal.invariant-loop-number
invariant-loop-number l =
    l.out.items ++ param_refusals (stored l.store) l.method l.own l.number (drop l.number l.params) ≡ l.fn.out.items ++ param_refusals (stored l.store) l.method l.own 0 l.method.params
