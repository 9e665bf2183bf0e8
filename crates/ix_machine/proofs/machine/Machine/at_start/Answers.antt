use Rattle.ix_core.specs.declared.program.Program.{Program}
use Rattle.ix_machine.specs.Programs.{places_of, values_of}
use Rattle.std.proofs.Common.{false, arith, ap, map, sym, ◌∙◌}
use Rattle.ix_core.specs.Machine.{frame, slots_with}
use Rattle.ix_core.specs.Tables.{body_of, method_at}
use Rattle.ix_core.specs.Tasks.{Empty, code_then}
use Rattle.ix_machine_state.specs.Rows.{held_of}
use Rattle.ix_machine_state.specs.View.{heap_of}
use Rattle.ix_machine_state.specs.Waiting.{waits_of}
use Rattle.ix_machine.specs.Turns.{state_with}
use Rattle.ix_machine_state.specs.declared.room.Room.{Room}
use Rattle.ix_machine_state.specs.Room.{code_above, code_values}
use Rattle.ix_machine.proofs.Methods.{method_fits}
use Rattle.ix_machine.proofs.machine.Machine.at_start.Goals as goal

pub start-requires-clause-fits : goal.start-requires-clause-fits
start-requires-clause-fits c =
    let fit = method_fits c.args.program.now.methods c.args.method c.in_ok-room.room (omega (arith, c.in_ok-room.ensures.places)) (omega (arith, c.in_ok-room.ensures.values)) in
    record {
      above = omega (arith, fit.above, ap code_above c.body_in.ensures, ap (λ (room : Room). room.places) c.in_ok-frame.ensures.room);
      values = omega (arith, fit.values, ap code_values c.body_in.ensures, ap (λ (room : Room). room.values) c.in_ok-frame.ensures.room);
    }

pub start-requires-clause-count : goal.start-requires-clause-count
start-requires-clause-count c =
    let fit = method_fits c.args.program.now.methods c.args.method c.in_ok-room.room (omega (arith, c.in_ok-room.ensures.places)) (omega (arith, c.in_ok-room.ensures.values)) in
    omega (arith, fit.slots, c.slots_in.ensures, ap (λ (room : Room). room.values) c.in_ok-frame.ensures.room)

pub start-requires-clause-values : goal.start-requires-clause-values
start-requires-clause-values c =
    let fit = method_fits c.args.program.now.methods c.args.method c.in_ok-room.room (omega (arith, c.in_ok-room.ensures.places)) (omega (arith, c.in_ok-room.ensures.values)) in
    omega (arith, fit.params, c.requires.values, ap (λ (room : Room). room.values) c.in_ok-frame.ensures.room)

pub returns-clause-state : goal.returns-clause-state
returns-clause-state c =
    let method = method_at c.args.program.now c.args.method in
    let values = map held_of c.args.values.now in
    let heap = heap_of c.args.heap in
    ap (λ top. state_with top (waits_of c.in_ok-pool.pool.below.items) heap false) c.start.ensures.frame
    ∙ (ap (λ code. state_with (frame c.args.method (code_then code Empty) (slots_with c.slots_in.result values)) (waits_of c.in_ok-pool.pool.below.items) heap false) c.body_in.ensures
    ∙ (ap (λ count. state_with (frame c.args.method (code_then (body_of method) Empty) (slots_with count values)) (waits_of c.in_ok-pool.pool.below.items) heap false) c.slots_in.ensures
    ∙ ap (λ below. state_with (frame c.args.method (code_then (body_of method) Empty) (slots_with method.slots values)) below heap false) c.in_ok-pool.ensures.none))

pub returns-clause-program : goal.returns-clause-program
returns-clause-program c = c.in_ok-rows.ensures

pub invariant_of-result : goal.invariant_of-result
invariant_of-result c = record {
  fits =
      let is = c.start.ensures.room ∙ (c.in_ok-frame.ensures.room ∙ sym c.in_ok-pool.ensures.room) in
      (ap (λ (room : Room). room.places) is, ap (λ (room : Room). room.values) is);
  places = omega (arith, ap (λ (program : Program). places_of program.methods) c.in_ok-rows.ensures, c.in_ok-room.ensures.places, ap (λ (room : Room). room.places) c.in_ok-pool.ensures.room);
  values = omega (arith, ap (λ (program : Program). values_of program.methods) c.in_ok-rows.ensures, c.in_ok-room.ensures.values, ap (λ (room : Room). room.values) c.in_ok-pool.ensures.room);
}
