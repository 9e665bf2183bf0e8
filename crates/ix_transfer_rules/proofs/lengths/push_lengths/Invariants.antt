use Rattle.std.proofs.Common.{[], ◌≡◌, ◌++◌, drop}
use Rattle.ix_facts.specs.Closure.{kept}
use Rattle.ix_facts.specs.AfterOperation as after
use Rattle.ix_facts.specs.Exact.{each}
use Rattle.ix_transfer_rules.proofs.lengths.push_lengths.Given as goal

abbrev pub invariant-loop-fact : goal.invariant-loop-fact
invariant-loop-fact l = l.out.items ++ kept (each (after.length_by [] l.t l.a) (drop l.fact-index l.on_operand)) ≡ l.fn.out.items ++ kept (each (after.length_by [] l.t l.a) l.on_operand)
