use Rattle.std.proofs.Common.{◌≡◌, List, drop}
use Rattle.ix_core.specs.declared.fact.Path.{Path}
use Rattle.ix_facts.specs.Exact.{named_ints}
use Rattle.ix_fact_paths.specs.ByPath.{put_all}
use Rattle.ix_fact_paths.proofs.named.put_until.Given as goal

abbrev pub invariant-loop-fact : goal.invariant-loop-fact
invariant-loop-fact l = record {
  is_put : (put : List Path) × (l.ints ≡ put_all l.fn.ints put);
  all : put_all l.ints (named_ints (drop l.fact-index l.facts)) ≡ put_all l.fn.ints (named_ints l.facts);
}
