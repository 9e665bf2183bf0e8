use Rattle.std.proofs.Common.{arith, map}
use Rattle.ix_core.specs.Heap.{value_at}
use Rattle.ix_machine_state.specs.Rows.{held_of}
use Rattle.ix_machine_state.proofs.Objects.{added_none, added_step, added_whole}
use Rattle.ix_machine_state.proofs.heap.push_picked.Goals as goal

pub loop-slot-init : goal.loop-slot-init
loop-slot-init c = record { items = added_none c.args.cells.now.items; len = omega arith; room = omega arith }

pub loop-slot-preserved : goal.loop-slot-preserved
loop-slot-preserved c = record {
  items = added_step (value_at (map held_of c.args.slots.now)) c.args.entries.now c.loop-slot.slot-index 0 _ _ _ c.value_in.result (omega arith) c.loop-slot.invariant.items c.push_reserved.ensures.items c.value_in.ensures;
  len = omega (arith, c.push_reserved.ensures.len, c.loop-slot.invariant.len);
  room = omega (arith, c.push_reserved.ensures.capacity, c.loop-slot.invariant.room);
}

pub returns-clause-items : goal.returns-clause-items
returns-clause-items c = added_whole (value_at (map held_of c.args.slots.now)) c.args.entries.now c.loop-slot.slot-index _ _ (omega (arith, c.loop-slot-test.false)) c.loop-slot.invariant.items
