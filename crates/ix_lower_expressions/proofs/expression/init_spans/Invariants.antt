use Rattle.std.proofs.Common.{◌≡◌, take, map}
use Rattle.ix_plain.specs.Values as spec
use Rattle.ix_lower_expressions.proofs.expression.init_spans.Given as goal

abbrev pub invariant-loop-init : goal.invariant-loop-init
invariant-loop-init l = l.list ≡ spec.spans (map spec.filling (take l.init-index l.inits))
