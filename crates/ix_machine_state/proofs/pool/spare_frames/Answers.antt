use Rattle.std.proofs.Common.{arith, ap}
use Rattle.ix_machine_state.specs.declared.room.Room.{Room}
use Rattle.ix_machine_state.proofs.Rooms.{more_frames}
use Rattle.ix_machine_state.proofs.pool.spare_frames.Goals as goal

pub loop-made-preserved : goal.loop-made-preserved
loop-made-preserved c = record {
  fit = more_frames c.args.room c.push_reserved.new.self.items c.loop-made.frames.items c.in_ok-new.field-0 c.push_reserved.ensures.items c.loop-made.invariant.fit
      (ap (λ (r : Room). r.places) c.in_ok-new.ensures.room, ap (λ (r : Room). r.values) c.in_ok-new.ensures.room);
  len = omega (arith, c.push_reserved.ensures.len, c.loop-made.invariant.len);
  memory = omega (arith, c.push_reserved.ensures.capacity, c.loop-made.invariant.memory);
}
