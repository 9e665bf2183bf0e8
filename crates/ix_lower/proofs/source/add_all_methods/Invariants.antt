use Rattle.std.proofs.Common.{◌≡◌, drop}
use Rattle.ix_plain.specs.Program as spec
use Rattle.ix_lower.specs.Homes.{shown_tables}
use Rattle.ix_lower.proofs.source.add_all_methods.Given as goal

abbrev pub invariant-loop-decl : goal.invariant-loop-decl
invariant-loop-decl l = spec.methods_from (shown_tables l.tables) l.fn.first l.decls l.initial.methods ≡ spec.methods_from (shown_tables l.tables) l.next (drop l.decl-index l.decls) l.methods
