use Rattle.std.proofs.Common.{◌≡◌, ◌++◌, [], drop}
use Rattle.ix_fact_table.specs.Links.{links}
use Rattle.ix_fact_table.proofs.links.length_links.Given as goal

abbrev pub invariant-loop-fact : goal.invariant-loop-fact
invariant-loop-fact l = l.found.items ++ links l.firsts.items (drop l.fact-index l.facts) ≡ links [] l.facts
