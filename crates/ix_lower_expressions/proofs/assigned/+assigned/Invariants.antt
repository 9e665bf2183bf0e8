use Rattle.std.proofs.Common.{◌≡◌, drop, map}
use Rattle.ix_plain.specs.Assigned as spec
use Rattle.ix_lower_expressions.specs.Shown.{shown_scope}
use Rattle.ix_lower_expressions.proofs.assigned.+assigned.Given as goal

abbrev pub invariant-add_all-loop-expr : goal.invariant-add_all-loop-expr
invariant-add_all-loop-expr l = spec.all_assign l.exprs (shown_scope l.scope) l.initial.known ≡ spec.all_assign (drop l.expr-index l.exprs) (shown_scope l.scope) l.known

abbrev pub invariant-add_inits-loop-init : goal.invariant-add_inits-loop-init
invariant-add_inits-loop-init l =
    spec.all (map spec.init_assigns l.inits) (shown_scope l.scope) l.initial.known ≡ spec.all (map spec.init_assigns (drop l.init-index l.inits)) (shown_scope l.scope) l.known
