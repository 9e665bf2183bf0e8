use Rattle.std.proofs.Common.{◌≡◌, ◌++◌, drop}
use Rattle.ix_store.specs.StoredFacts.{stored}
use Rattle.ix_errors.specs.Refusals.{argument_refusals}
use Rattle.ix_errors.proofs.call_errors.push_arguments.Given as goal

abbrev pub invariant-loop-number : goal.invariant-loop-number
invariant-loop-number l =
    l.out.items ++ argument_refusals (stored l.store) l.call l.number (drop l.number l.params) (drop l.number l.args)
    ≡ l.fn.out.items ++ argument_refusals (stored l.store) l.call 0 l.params l.call.args
