use Rattle.std.proofs.Common.{arith}
use Rattle.ix_core.specs.Heap.{default_of}
use Rattle.ix_core.specs.Tables.{field_at}
use Rattle.ix_machine_state.proofs.Objects.{added_none, added_step, added_whole}
use Rattle.ix_machine_state.proofs.heap.push_defaults.Goals as goal

pub loop-field-init : goal.loop-field-init
loop-field-init c = record { items = added_none c.args.cells.now.items; len = omega arith; room = omega arith }

pub loop-field-preserved : goal.loop-field-preserved
loop-field-preserved c = record {
  items = added_step (λ field. default_of (field_at c.args.program.now field).ty) c.args.fields.now c.loop-field.field-index 0 _ _ _ c.field_default.result (omega arith) c.loop-field.invariant.items c.push_reserved.ensures.items c.field_default.ensures;
  len = omega (arith, c.push_reserved.ensures.len, c.loop-field.invariant.len);
  room = omega (arith, c.push_reserved.ensures.capacity, c.loop-field.invariant.room);
}

pub returns-clause-items : goal.returns-clause-items
returns-clause-items c = added_whole (λ field. default_of (field_at c.args.program.now field).ty) c.args.fields.now c.loop-field.field-index _ _ (omega (arith, c.loop-field-test.false)) c.loop-field.invariant.items
