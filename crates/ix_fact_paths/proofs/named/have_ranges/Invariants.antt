use Rattle.std.proofs.Common.{◌⊎◌}
use Rattle.ix_core.specs.declared.fact.Path.{Path}
use Rattle.ix_facts.specs.Exact.{named_ints}
use Rattle.ix_facts.specs.Named.{IsAmongPaths}
use Rattle.ix_fact_paths.proofs.named.have_ranges.Given as goal

abbrev pub invariant-loop-fact : goal.invariant-loop-fact
invariant-loop-fact l = (p : Path) → IsAmongPaths p l.paths → IsAmongPaths p l.rest ⊎ IsAmongPaths p (named_ints l.facts)
