use Rattle.std.proofs.Common.{◌≡◌, ◌++◌, drop, map}
use Rattle.ix_guard.specs.Accesses as spec
use Rattle.ix_guard.specs.Shown.{seen}
use Rattle.ix_guard.proofs.parts.+parts.Given as goal

abbrev pub invariant-add_args-loop-arg : goal.invariant-add_args-loop-arg
invariant-add_args-loop-arg l =
    (map seen l.found.accesses.items ++ (spec.all_parts (drop l.arg-index l.args)).accesses ≡ map seen l.initial.found.accesses.items ++ (spec.all_parts l.args).accesses)
    × (l.found.assigned.items ++ (spec.all_parts (drop l.arg-index l.args)).assigned ≡ l.initial.found.assigned.items ++ (spec.all_parts l.args).assigned)

abbrev pub invariant-add_items-loop-item : goal.invariant-add_items-loop-item
invariant-add_items-loop-item l =
    (map seen l.found.accesses.items ++ (spec.all_init_parts (drop l.item-index l.items)).accesses ≡ map seen l.initial.found.accesses.items ++ (spec.all_init_parts l.items).accesses)
    × (l.found.assigned.items ++ (spec.all_init_parts (drop l.item-index l.items)).assigned ≡ l.initial.found.assigned.items ++ (spec.all_init_parts l.items).assigned)
