use Rattle.std.proofs.Common.{drop}
use Rattle.ix_num.specs.Ints.{least_int, greatest_int}
use Rattle.ix_facts.specs.Bounds.{lower_by, lower_bound, limit_by, upper_limit}
use Rattle.ix_fact_list.specs.NearNumbers.{AreLimits}
use Rattle.ix_fact_list.proofs.NearRaised.{Rising, Falling}
use Rattle.ix_fact_list.proofs.limits.Limits.of.Given as goal

abbrev pub invariant-loop-fact : goal.invariant-loop-fact
invariant-loop-fact g l = record {
  lows : Rising (lower_by l.facts) (lower_bound l.facts) l.lows.items least_int (drop l.fact-index l.facts);
  highs : Falling (limit_by l.facts) (upper_limit l.facts) l.highs.items greatest_int (drop l.fact-index l.facts);
  small_lows : AreLimits l.lows.items least_int;
  small_highs : AreLimits l.highs.items greatest_int;
}
