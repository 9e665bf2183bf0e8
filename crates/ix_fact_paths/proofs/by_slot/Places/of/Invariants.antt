use Rattle.std.proofs.Common.{◌≡◌, ◌++◌, drop}
use Rattle.ix_core.specs.declared.fact.Path.{Path}
use Rattle.ix_fact_paths.specs.ByPath.{facts_at, on_it}
use Rattle.ix_fact_paths.proofs.by_slot.Places.of.Given as goal

abbrev pub invariant-loop-fact : goal.invariant-loop-fact
invariant-loop-fact l = (x : Path) → facts_at l.places x ++ on_it x (drop l.fact-index l.facts) ≡ on_it x l.facts
