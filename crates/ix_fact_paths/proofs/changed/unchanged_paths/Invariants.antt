use Rattle.std.proofs.Common.{◌≡◌, ◌++◌, ◌≤◌, drop, length}
use Rattle.std.specs.Vec.{vec_len, vec_capacity}
use Rattle.ix_fact_paths.specs.ChangedPaths.{is_changed, paths_beside}
use Rattle.ix_fact_paths.proofs.changed.unchanged_paths.Given as goal

abbrev pub invariant-loop-p : goal.invariant-loop-p
invariant-loop-p l = record {
  paths : l.kept.items ++ paths_beside (is_changed l.changed) (drop l.p-index l.paths) ≡ paths_beside (is_changed l.changed) l.paths;
  short : vec_len l.kept ≤ l.p-index;
  room : length l.paths ≤ vec_capacity l.kept;
}
