use Rattle.std.proofs.Common.{◌≡◌, ◌++◌, drop}
use Rattle.ix_facts.specs.Kinds.{of_kind}
use Rattle.ix_fact_table.proofs.kinds.of_one_kind.Given as goal

abbrev pub invariant-loop-fact : goal.invariant-loop-fact
invariant-loop-fact l = l.own.items ++ of_kind l.kind (drop l.fact-index l.facts) ≡ of_kind l.kind l.facts
