use Rattle.std.proofs.Common.{◌≡◌, drop, map}
use Rattle.ix_plain.specs.Values as spec
use Rattle.ix_lower_expressions.specs.Shown.{shown_scope, all_given, all_initial}
use Rattle.ix_lower_expressions.proofs.expression.+lowering.Given as goal

abbrev pub invariant-arguments-loop-expr : goal.invariant-arguments-loop-expr
invariant-arguments-loop-expr l =
    all_given l.scope l.exprs l.initial.made ≡ spec.arguments_from l.args (map spec.lowering (drop l.expr-index l.exprs)) (shown_scope l.scope) l.made

abbrev pub invariant-entries-loop-init : goal.invariant-entries-loop-init
invariant-entries-loop-init l =
    all_initial l.scope l.inits l.cell l.initial.made ≡ spec.entries_from l.slots (map spec.filling (drop l.init-index l.inits)) (shown_scope l.scope) l.cell l.made
