use Rattle.std.proofs.Common.{◌≡◌, ◌++◌, ◌≤◌, drop, length}
use Rattle.std.specs.Vec.{vec_len, vec_capacity}
use Rattle.ix_facts.specs.Forget.{without}
use Rattle.ix_fact_paths.specs.ChangedPaths.{is_changed}
use Rattle.ix_fact_paths.proofs.changed.beside_many.Given as goal

abbrev pub invariant-loop-fact : goal.invariant-loop-fact
invariant-loop-fact l = record {
  facts : l.kept.items ++ without (is_changed l.changed) (drop l.fact-index l.facts) ≡ without (is_changed l.changed) l.facts;
  short : vec_len l.kept ≤ l.fact-index;
  room : length l.facts ≤ vec_capacity l.kept;
}
