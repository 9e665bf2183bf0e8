use Rattle.ix_machine_state.specs.declared.room.Room.{Room}
use Rattle.std.proofs.Common.{arith, ap, ◌∙◌, length}
use Rattle.ix_core.specs.Code.{items_code}
use Rattle.ix_machine_state.specs.View.{heap_of}
use Rattle.ix_machine_state.specs.Frames.{slots_of}
use Rattle.ix_machine_state.specs.Room.{code_above, code_values}
use Rattle.ix_machine.specs.Kinds.{kind_of}
use Rattle.ix_machine.proofs.Methods.{method_fits, receiver_is, entered_frame}
use Rattle.ix_machine.proofs.call.enter.Goals as goal

pub enter-requires-clause-fits : goal.enter-requires-clause-fits
enter-requires-clause-fits c =
    let fit = method_fits c.args.rows.now.program.now.methods c.args.method c.args.pool.now.room c.requires.places c.requires.values in
    record {
      above = omega (arith, fit.above, ap code_above c.body_in.ensures);
      values = omega (arith, fit.values, ap code_values c.body_in.ensures);
    }

pub enter-requires-clause-count : goal.enter-requires-clause-count
enter-requires-clause-count c =
    let fit = method_fits c.args.rows.now.program.now.methods c.args.method c.args.pool.now.room c.requires.places c.requires.values in
    omega (arith, fit.slots, c.slots_in.ensures)

pub returns-clause-frame : goal.returns-clause-frame
returns-clause-frame c =
    entered_frame c.args.method _ (items_code c.body_in.result.now) _ _ _ _ _ _ _ (slots_of c.args.frame.now) c.enter.ensures.frame c.body_in.ensures c.slots_in.ensures
    (c.receiver-this.ensures ∙ receiver_is (kind_of c.args.call.kind) c.args.call.op.now c.make_object-number.result (length (heap_of c.args.heap.now)) (slots_of c.args.frame.now) c.make_object-number.ensures.number) c.as_slice.ensures

pub enter-requires-clause-room : goal.enter-requires-clause-room
enter-requires-clause-room c = (ap (λ (room : Room). room.places) c.put.ensures.room ∙ c.requires.fits.0, ap (λ (room : Room). room.values) c.put.ensures.room ∙ c.requires.fits.1)
