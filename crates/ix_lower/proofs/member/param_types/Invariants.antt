use Rattle.std.proofs.Common.{◌≡◌, drop, []}
use Rattle.ix_plain.specs.Members as spec
use Rattle.ix_symbols.specs.Numbered.{shown}
use Rattle.ix_lower.proofs.member.param_types.Given as goal

abbrev pub invariant-loop-decl : goal.invariant-loop-decl
invariant-loop-decl l = spec.param_types_from (shown l.table) [] l.decls ≡ spec.param_types_from (shown l.table) l.types (drop l.decl-index l.decls)
