use Rattle.std.proofs.Common.{ℕ, ◌<◌, slice_index_or}
use Rattle.ix_core.specs.declared.fact.Fact.{Fact}
use Rattle.ix_facts.specs.Small.{HasSmallNumbers}
use Rattle.ix_tests.proofs.known.are_small.Given as goal

abbrev pub invariant-loop-fact : goal.invariant-loop-fact
invariant-loop-fact l = (k : ℕ) (fact : Fact) → k < l.fact-index → HasSmallNumbers (slice_index_or l.facts k fact)
