use Rattle.std.proofs.Common.{◌≡◌, ◌++◌, ◌≤◌, drop, length}
use Rattle.std.specs.Vec.{vec_len, vec_capacity}
use Rattle.ix_facts.specs.Forget.{of_path, without}
use Rattle.ix_fact_paths.proofs.filters.facts_without_path.Given as goal

abbrev pub invariant-loop-fact : goal.invariant-loop-fact
invariant-loop-fact l = record {
  facts : l.kept.items ++ without (of_path l.path) (drop l.fact-index l.facts) ≡ without (of_path l.path) l.facts;
  short : vec_len l.kept ≤ l.fact-index;
  room : length l.facts ≤ vec_capacity l.kept;
}
