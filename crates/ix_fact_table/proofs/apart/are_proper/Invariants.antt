use Rattle.std.proofs.Common.{◌≡◌, drop}
use Rattle.std.specs.List.{list_all}
use Rattle.ix_fact_table.specs.Apart.{is_proper}
use Rattle.ix_fact_table.proofs.apart.are_proper.Given as goal

abbrev pub invariant-loop-fact : goal.invariant-loop-fact
invariant-loop-fact l = list_all is_proper (drop l.fact-index l.facts) ≡ list_all is_proper l.facts
