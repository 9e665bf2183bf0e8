use Rattle.std.proofs.Common.{◌≡◌, drop}
use Rattle.ix_fact_table.specs.Beside.{are_plain}
use Rattle.ix_fact_table.proofs.beside.are_plain.Given as goal

abbrev pub invariant-loop-fact : goal.invariant-loop-fact
invariant-loop-fact l = are_plain (drop l.fact-index l.facts) ≡ are_plain l.facts
