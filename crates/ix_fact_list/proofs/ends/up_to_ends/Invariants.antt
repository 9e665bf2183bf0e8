use Rattle.std.proofs.Common.{◌≡◌, ◌++◌, ◌≤◌, take, drop}
use Rattle.ix_bounds.specs.Ends.{ends_in}
use Rattle.ix_fact_list.proofs.ends.up_to_ends.Given as goal

abbrev pub invariant-loop-fact : goal.invariant-loop-fact
invariant-loop-fact l = record {
  seen : l.seen ≡ l.fact-index;
  within : l.last ≤ l.fact-index;
  ends : ends_in (take l.last l.facts) ++ ends_in (drop l.fact-index l.facts) ≡ ends_in l.facts;
}
