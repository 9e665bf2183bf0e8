use Rattle.std.proofs.Common.{take}
use Rattle.ix_fact_table.specs.Piles.{ArePiles}
use Rattle.ix_fact_table.proofs.insertion.piles.Given as goal

abbrev pub invariant-loop-fact : goal.invariant-loop-fact
invariant-loop-fact l = ArePiles l.kind (take l.fact-index l.facts) l.first.items l.second.items
