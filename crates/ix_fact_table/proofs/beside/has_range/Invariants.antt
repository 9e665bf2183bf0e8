use Rattle.std.proofs.Common.{◌≡◌, drop}
use Rattle.ix_fact_table.specs.Beside.{has_range}
use Rattle.ix_fact_table.proofs.beside.has_range.Given as goal

abbrev pub invariant-loop-fact : goal.invariant-loop-fact
invariant-loop-fact l = has_range (drop l.fact-index l.facts) l.p ≡ has_range l.facts l.p
