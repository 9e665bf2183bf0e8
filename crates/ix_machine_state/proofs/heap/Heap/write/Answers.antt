use Rattle.std.proofs.Common.{◌≤◌, sym, length, arith}
use Rattle.ix_core.specs.Heap.{Object}
use Rattle.std.proofs.Common.{subst}
use Rattle.ix_machine_state.specs.View.{heap_of}
use Rattle.ix_machine_state.proofs.Objects.{write_past}
use Rattle.ix_machine_state.proofs.heap.Heap.write.Goals as goal

pub returns-else-place-row-clause-written : goal.returns-else-place-row-clause-written
returns-else-place-row-clause-written c =
    let size = c.in-Some.ensures.size in
    sym (write_past (heap_of c.args.self.now) c.args.number c.args.place _ (omega (arith, size)))

pub returns-in_default-clause-written : goal.returns-in_default-clause-written
returns-in_default-clause-written c =
    sym (write_past (heap_of c.args.self.now) c.args.number c.args.place _ (subst (λ (object : Object). length object.cells ≤ c.args.place) (sym c.in_default.ensures.none) (omega arith)))
