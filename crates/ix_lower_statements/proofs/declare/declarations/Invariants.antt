use Rattle.std.proofs.Common.{◌≡◌, drop}
use Rattle.ix_plain.specs.Statements as spec
use Rattle.ix_lower_expressions.specs.Shown.{shown_site}
use Rattle.ix_lower_statements.proofs.declare.declarations.Given as goal

abbrev pub invariant-loop-decl : goal.invariant-loop-decl
invariant-loop-decl l = spec.declarations l.decls (shown_site l.site) l.end l.initial.body ≡ spec.declarations (drop l.decl-index l.decls) (shown_site l.site) l.end l.body
