use Rattle.std.proofs.Common.{◌≡◌, drop}
use Rattle.ix_fact_paths.specs.ChangedPaths.{is_changed, some_path}
use Rattle.ix_fact_paths.proofs.changed.changes_some.Given as goal

abbrev pub invariant-loop-p : goal.invariant-loop-p
invariant-loop-p l = some_path (is_changed l.changed) (drop l.p-index l.paths) ≡ some_path (is_changed l.changed) l.paths
