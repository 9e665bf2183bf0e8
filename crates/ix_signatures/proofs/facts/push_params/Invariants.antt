use Rattle.std.proofs.Common.{◌≡◌, ◌++◌, drop}
use Rattle.ix_signatures.specs.Signs.{params_facts}
use Rattle.ix_signatures.proofs.facts.push_params.Given as goal

abbrev pub invariant-loop-number : goal.invariant-loop-number
invariant-loop-number l = l.out.items ++ params_facts l.method l.number (drop l.number l.params) ≡ l.fn.out.items ++ params_facts l.method 0 l.method.params
