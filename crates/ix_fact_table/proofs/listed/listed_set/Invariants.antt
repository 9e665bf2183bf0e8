use Rattle.std.proofs.Common.{◌≡◌, [], drop}
use Rattle.ix_fact_paths.specs.ByPath.{put_all}
use Rattle.ix_fact_table.specs.Listed.{all_listed}
use Rattle.ix_fact_table.proofs.listed.listed_set.Given as goal

abbrev pub invariant-loop-fact : goal.invariant-loop-fact
invariant-loop-fact l = put_all l.arrays (all_listed (drop l.fact-index l.facts)) ≡ put_all [] (all_listed l.facts)
