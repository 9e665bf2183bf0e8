use Rattle.std.proofs.Common.{arith, ap}
use Rattle.ix_machine_state.specs.declared.room.Room.{Room}
use Rattle.ix_machine.proofs.Methods.{method_step, some_places}
use Rattle.ix_machine.proofs.needs.program_room.Goals as goal

pub loop-method-init : goal.loop-method-init
loop-method-init c = record { places = omega (arith, some_places c.as_slice-methods.result.now); values = omega arith; least = omega arith }

pub loop-method-preserved : goal.loop-method-preserved
loop-method-preserved c =
    let is = method_step c.as_slice-methods.result.now c.loop-method.method-index c.method-item.result (omega arith) c.method-item.is in
    record {
      places = omega (arith, is.0, c.loop-method.invariant.places, c.max-places.ensures, ap (λ (r : Room). r.places) c.in_ok-room.ensures);
      values = omega (arith, is.1, c.loop-method.invariant.values, c.max-values.ensures, ap (λ (r : Room). r.values) c.in_ok-room.ensures);
      least = omega (arith, c.loop-method.invariant.least, c.max-places.ensures);
    }
