use Rattle.std.proofs.Common.{List, ◌∷◌, length}
use Rattle.ix_core.specs.declared.fact.Fact.{Fact}
use Rattle.ix_fact_table.specs.Walks.{Sharing}
use Rattle.ix_fact_table.proofs.walks.add_shared.Given as goal

abbrev pub invariant-loop-fact : goal.invariant-loop-fact
invariant-loop-fact l = (first second rest : List Fact) → Sharing first second l.facts (l.other ∷ rest) l.fn.shared.items → Sharing first second l.rest (l.other ∷ rest) l.shared.items

abbrev pub decreases-loop-fact : goal.decreases-loop-fact
decreases-loop-fact l = length l.rest
