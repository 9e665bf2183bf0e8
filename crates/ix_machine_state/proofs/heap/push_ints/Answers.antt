use Rattle.std.proofs.Common.{arith, rules, ap, w32, get_or}
use Rattle.std.proofs.lemmas.Int.{to_z-of_z}
use Rattle.std.specs.Prelude.{pos}
use Rattle.ix_core.specs.Heap.{Num}
use Rattle.ix_machine_state.proofs.Objects.{added_none, added_step, added_whole}
use Rattle.ix_machine_state.proofs.heap.push_ints.Goals as goal

pub loop-n-init : goal.loop-n-init
loop-n-init c = record { items = added_none c.args.cells.now.items; len = omega arith; room = omega arith }

pub loop-n-preserved : goal.loop-n-preserved
loop-n-preserved c = record {
  items = added_step Num c.args.ns.now c.loop-n.n-index (pos 0) _ _ _ _ (omega arith) c.loop-n.invariant.items c.push_reserved.ensures.items (ap Num (to_z-of_z w32 (get_or c.args.ns.now c.loop-n.n-index (pos 0)) (search rules)));
  len = omega (arith, c.push_reserved.ensures.len, c.loop-n.invariant.len);
  room = omega (arith, c.push_reserved.ensures.capacity, c.loop-n.invariant.room);
}

pub returns-clause-items : goal.returns-clause-items
returns-clause-items c = added_whole Num c.args.ns.now c.loop-n.n-index _ _ (omega (arith, c.loop-n-test.false)) c.loop-n.invariant.items
