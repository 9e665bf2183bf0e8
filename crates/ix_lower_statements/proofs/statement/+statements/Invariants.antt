use Rattle.std.proofs.Common.{◌≡◌, drop, map}
use Rattle.ix_plain.specs.Statements as spec
use Rattle.ix_lower_expressions.specs.Shown.{shown_site}
use Rattle.ix_lower_statements.proofs.statement.+statements.Given as goal

abbrev pub invariant-each-loop-stmt : goal.invariant-each-loop-stmt
invariant-each-loop-stmt l =
    spec.each (map spec.statement l.statements) (shown_site l.site) l.end l.initial.body
    ≡ spec.each (map spec.statement (drop l.stmt-index l.statements)) (shown_site l.site) l.end l.body
