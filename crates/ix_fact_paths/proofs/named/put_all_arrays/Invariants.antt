use Rattle.std.proofs.Common.{◌≡◌, drop}
use Rattle.ix_facts.specs.Exact.{named_arrays}
use Rattle.ix_fact_paths.specs.ByPath.{put_all}
use Rattle.ix_fact_paths.proofs.named.put_all_arrays.Given as goal

abbrev pub invariant-loop-fact : goal.invariant-loop-fact
invariant-loop-fact l = put_all l.arrays (named_arrays (drop l.fact-index l.facts)) ≡ put_all l.fn.arrays (named_arrays l.facts)
