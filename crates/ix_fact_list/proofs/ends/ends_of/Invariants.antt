use Rattle.std.proofs.Common.{◌≡◌, ◌++◌, drop}
use Rattle.ix_bounds.specs.Ends.{ends_in}
use Rattle.ix_fact_list.proofs.ends.ends_of.Given as goal

abbrev pub invariant-loop-fact : goal.invariant-loop-fact
invariant-loop-fact l = l.ends.items ++ ends_in (drop l.fact-index l.facts) ≡ ends_in l.facts
