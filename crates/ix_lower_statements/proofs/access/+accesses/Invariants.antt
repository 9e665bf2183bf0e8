use Rattle.std.proofs.Common.{◌≡◌, drop, map}
use Rattle.ix_plain.specs.Counts as spec
use Rattle.ix_lower_statements.proofs.access.+accesses.Given as goal

abbrev pub invariant-in_exprs-loop-expr : goal.invariant-in_exprs-loop-expr
invariant-in_exprs-loop-expr l = spec.exprs_accesses l.exprs l.initial.count ≡ spec.exprs_accesses (drop l.expr-index l.exprs) l.count

abbrev pub invariant-in_inits-loop-init : goal.invariant-in_inits-loop-init
invariant-in_inits-loop-init l = spec.all (map spec.init_accesses l.inits) l.initial.count ≡ spec.all (map spec.init_accesses (drop l.init-index l.inits)) l.count
