use Rattle.std.proofs.Common.{◌≡◌, ◌++◌, drop}
use Rattle.ix_signatures.specs.Signs.{dependent_facts}
use Rattle.ix_signatures.proofs.dependent.push_dependents.Given as goal

abbrev pub invariant-loop-number : goal.invariant-loop-number
invariant-loop-number l = l.out.items ++ dependent_facts l.object l.field l.number (drop l.number l.fields) ≡ l.fn.out.items ++ dependent_facts l.object l.field 0 l.program.fields
