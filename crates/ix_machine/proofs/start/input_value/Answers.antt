use Rattle.std.proofs.Common.{length, arith, ap, ◌∙◌, sym}
use borrow.Author.Tests.{ltb-true, ltb-false}
use Rattle.ix_core.specs.Heap.{cells_used}
use Rattle.ix_machine_state.specs.View.{heap_of}
use Rattle.ix_machine.proofs.Begun.{one_more}
use Rattle.ix_machine.proofs.start.input_value.Goals as goal

pub returns-then-lacks-clause-large : goal.returns-then-lacks-clause-large
returns-then-lacks-clause-large c =
    let past = ltb-true _ _ (sym c.lacks.ensures ∙ c.if-lacks.true) in
    let size = one_more (heap_of c.args.heap.now) c.in-Ints.ns c.args.ty.now in
    rw c.in-Ints.is (omega (arith, past, size, ap length c.as_slice-ns.ensures))

pub returns-else-lacks-clause-fits : goal.returns-else-lacks-clause-fits
returns-else-lacks-clause-fits c =
    let left = ltb-false _ _ (sym c.lacks.ensures ∙ c.if-lacks.false) in
    let size = one_more (heap_of c.args.heap.now) c.as_slice-ns.result.now c.args.ty.now in
    omega (arith, left, size, ap cells_used c.make_ints.ensures.made)
