use Rattle.std.proofs.Common.{drop, pos}
use Rattle.ix_num.specs.Ints.{least_int, greatest_int}
use Rattle.ix_facts.specs.Bounds.{range_low_by, range_high_by, length_low_by, length_high_by, range_low, range_high, length_low, length_high}
use Rattle.ix_fact_list.proofs.NearRaised.{Rising, Falling}
use Rattle.ix_fact_list.proofs.limits.NearEnds.of.Given as goal

abbrev pub invariant-loop-fact : goal.invariant-loop-fact
invariant-loop-fact l = record {
  lows : Rising range_low_by (range_low l.facts) l.ends.lows.items least_int (drop l.fact-index l.facts);
  highs : Falling range_high_by (range_high l.facts) l.ends.highs.items greatest_int (drop l.fact-index l.facts);
  length_lows : Rising length_low_by (length_low l.facts) l.ends.length_lows.items (pos 0) (drop l.fact-index l.facts);
  length_highs : Falling length_high_by (length_high l.facts) l.ends.length_highs.items greatest_int (drop l.fact-index l.facts);
}
