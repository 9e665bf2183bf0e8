use Rattle.std.proofs.Common.{◌≡◌, ◌++◌, drop, map}
use Rattle.ix_guard.specs.Accesses as spec
use Rattle.ix_guard.specs.Shown.{seen}
use Rattle.ix_guard.proofs.parts.add_all_declared.Given as goal

abbrev pub invariant-loop-decl : goal.invariant-loop-decl
invariant-loop-decl l =
    (map seen l.found.accesses.items ++ (spec.all_decl_parts (drop l.decl-index l.decls)).accesses ≡ map seen l.initial.found.accesses.items ++ (spec.all_decl_parts l.decls).accesses)
    × (l.found.assigned.items ++ (spec.all_decl_parts (drop l.decl-index l.decls)).assigned ≡ l.initial.found.assigned.items ++ (spec.all_decl_parts l.decls).assigned)
