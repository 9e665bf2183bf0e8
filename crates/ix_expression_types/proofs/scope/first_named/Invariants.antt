use Rattle.std.proofs.Common.{◌≡◌, map, drop}
use Rattle.ix_meaning.specs.Scope as scope
use Rattle.ix_expression_types.specs.Here as spec
use Rattle.ix_expression_types.proofs.scope.first_named.Given as goal

abbrev pub invariant-loop-param : goal.invariant-loop-param
invariant-loop-param l = scope.meant l.name (map spec.param_known (drop l.param-index l.params)) ≡ scope.meant l.name (map spec.param_known l.params)
