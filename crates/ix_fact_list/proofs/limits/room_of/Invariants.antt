use Rattle.std.proofs.Common.{◌≤◌}
use Rattle.ix_fact_list.proofs.limits.room_of.Given as goal

abbrev pub invariant-loop-p : goal.invariant-loop-p
invariant-loop-p l = l.room ≤ 2048
