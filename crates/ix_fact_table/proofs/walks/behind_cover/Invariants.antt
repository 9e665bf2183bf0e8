use Rattle.std.proofs.Common.{List, ◌∷◌, length}
use Rattle.ix_core.specs.declared.fact.Fact.{Fact}
use Rattle.ix_fact_table.specs.Walks.{Comparing}
use Rattle.ix_fact_table.proofs.walks.behind_cover.Given as goal

abbrev pub invariant-loop-fact : goal.invariant-loop-fact
invariant-loop-fact l = (first second rest : List Fact) → Comparing first second l.facts (l.other ∷ rest) → Comparing first second l.rest (l.other ∷ rest)

abbrev pub decreases-loop-fact : goal.decreases-loop-fact
decreases-loop-fact l = length l.rest
