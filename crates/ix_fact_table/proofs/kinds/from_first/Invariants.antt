use Rattle.std.proofs.Common.{◌≡◌, length}
use Rattle.ix_core.specs.declared.fact.Fact.{Fact}
use Rattle.ix_facts.specs.Facts.{IsIn}
use Rattle.ix_facts.specs.Kinds.{of_kind}
use Rattle.ix_fact_table.proofs.kinds.from_first.Given as goal

abbrev pub invariant-loop-fact : goal.invariant-loop-fact
invariant-loop-fact l = record {
  same : of_kind l.kind l.rest ≡ of_kind l.kind l.facts;
  part : (f : Fact) → IsIn f l.rest → IsIn f l.facts;
}

abbrev pub decreases-loop-fact : goal.decreases-loop-fact
decreases-loop-fact l = length l.rest
