use Rattle.std.proofs.Common.{◌≡◌, ◌+◌, List, ◌∷◌, length}
use Rattle.std.specs.Vec.{vec_len, vec_capacity}
use Rattle.ix_core.specs.declared.fact.Fact.{Fact}
use Rattle.ix_fact_table.specs.Walks.{Merging}
use Rattle.ix_fact_table.proofs.walks.add_up_to.Given as goal

abbrev pub invariant-loop-fact : goal.invariant-loop-fact
invariant-loop-fact l = record {
  merging : (first second rest : List Fact) → Merging first second l.facts (l.other ∷ rest) l.fn.all.items → Merging first second l.rest (l.other ∷ rest) l.all.items;
  len : vec_len l.all + length l.rest ≡ vec_len l.fn.all + length l.facts;
  capacity : vec_capacity l.all ≡ vec_capacity l.fn.all;
}

abbrev pub decreases-loop-fact : goal.decreases-loop-fact
decreases-loop-fact l = length l.rest
