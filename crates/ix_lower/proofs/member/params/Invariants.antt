use Rattle.std.proofs.Common.{◌≡◌, drop, []}
use Rattle.ix_plain.specs.Members as spec
use Rattle.ix_symbols.specs.Numbered.{shown}
use Rattle.ix_lower.proofs.member.params.Given as goal

abbrev pub invariant-loop-decl : goal.invariant-loop-decl
invariant-loop-decl l = spec.params_from (shown l.table) [] l.first l.decls ≡ spec.params_from (shown l.table) l.params l.slot (drop l.decl-index l.decls)
