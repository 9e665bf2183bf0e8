use Rattle.std.proofs.Common.{length}
use Rattle.ix_fact_table.proofs.sorted.+sorted_many.Given as goal

abbrev pub decreases-sorted_many : goal.decreases-sorted_many
decreases-sorted_many l = length l.facts.now
