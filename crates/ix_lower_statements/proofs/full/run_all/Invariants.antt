use Rattle.std.proofs.Common.{◌≡◌, drop}
use Rattle.ix_plain.specs.Statements as spec
use Rattle.ix_lower_expressions.specs.Shown.{shown_site}
use Rattle.ix_lower_statements.proofs.full.run_all.Given as goal

abbrev pub invariant-loop-expr : goal.invariant-loop-expr
invariant-loop-expr l = spec.all_ran l.exprs (shown_site l.site) l.initial.body ≡ spec.all_ran (drop l.expr-index l.exprs) (shown_site l.site) l.body
