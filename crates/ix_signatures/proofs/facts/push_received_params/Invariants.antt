use Rattle.std.proofs.Common.{◌≡◌, ◌++◌, drop}
use Rattle.ix_signatures.specs.Signs.{received_params}
use Rattle.ix_signatures.proofs.facts.push_received_params.Given as goal

abbrev pub invariant-loop-number : goal.invariant-loop-number
invariant-loop-number l = l.out.items ++ received_params l.method l.number (drop l.number l.types) ≡ l.fn.out.items ++ received_params l.method 0 l.method.param_types
