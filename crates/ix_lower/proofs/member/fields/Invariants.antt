use Rattle.std.proofs.Common.{◌≡◌, drop, []}
use Rattle.ix_plain.specs.Members as spec
use Rattle.ix_symbols.specs.Numbered.{shown}
use Rattle.ix_lower.proofs.member.fields.Given as goal

abbrev pub invariant-loop-decl : goal.invariant-loop-decl
invariant-loop-decl l = spec.fields_from (shown l.table) [] 0 l.decls ≡ spec.fields_from (shown l.table) l.fields l.class (drop l.decl-index l.decls)
