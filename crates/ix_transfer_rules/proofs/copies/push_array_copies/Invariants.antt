use Rattle.std.proofs.Common.{◌≡◌, ◌++◌, drop}
use Rattle.ix_facts.specs.Closure.{kept}
use Rattle.ix_facts.specs.AfterOperation as after
use Rattle.ix_facts.specs.Exact.{each}
use Rattle.ix_transfer_rules.proofs.copies.push_array_copies.Given as goal

abbrev pub invariant-loop-fact : goal.invariant-loop-fact
invariant-loop-fact l = l.out.items ++ kept (each (after.array_copied_by l.t l.s) (drop l.fact-index l.on_source)) ≡ l.fn.out.items ++ kept (each (after.array_copied_by l.t l.s) l.on_source)
