use Rattle.std.proofs.Common.{◌≡◌, ◌++◌, drop}
use Rattle.ix_expression_types.specs.Here.{here}
use Rattle.ix_meaning.specs.Bodies as spec
use Rattle.ix_names.proofs.body.run_all.Given as goal

abbrev pub invariant-loop-e : goal.invariant-loop-e
invariant-loop-e l = l.notes ++ spec.all_run (drop l.e-index l.es) (here l.world l.scopes) ≡ l.fn.notes ++ spec.all_run l.es (here l.world l.scopes)
