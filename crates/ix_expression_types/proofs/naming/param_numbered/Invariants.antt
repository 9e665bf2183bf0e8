use Rattle.std.proofs.Common.{◌≡◌, map, drop}
use Rattle.ix_meaning.specs.Scope as scope
use Rattle.ix_expression_types.specs.Here as spec
use Rattle.ix_expression_types.proofs.naming.param_numbered.Given as goal

abbrev pub invariant-loop-param : goal.invariant-loop-param
invariant-loop-param l = scope.param_numbered l.number (map spec.param_known (drop l.param-index l.params)) ≡ scope.param_numbered l.number (map spec.param_known l.params)
