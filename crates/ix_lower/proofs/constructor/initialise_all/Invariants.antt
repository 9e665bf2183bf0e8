use Rattle.std.proofs.Common.{◌≡◌, drop}
use Rattle.ix_plain.specs.Program as spec
use Rattle.ix_lower_expressions.specs.Shown.{shown_site}
use Rattle.ix_lower.proofs.constructor.initialise_all.Given as goal

abbrev pub invariant-loop-member : goal.invariant-loop-member
invariant-loop-member l = spec.fields_initialised (shown_site l.site) l.first l.members l.initial.body ≡ spec.fields_initialised (shown_site l.site) l.field (drop l.member-index l.members) l.body
