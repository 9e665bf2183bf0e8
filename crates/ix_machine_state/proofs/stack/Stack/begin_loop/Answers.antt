use Rattle.std.proofs.Common.{arith, ap}
use Rattle.ix_machine_state.specs.declared.room.Room.{Room}
use Rattle.ix_machine_state.proofs.Free.{two_more}
use Rattle.ix_machine_state.proofs.stack.Stack.begin_loop.Goals as goal

pub put_two-requires : goal.put_two-requires
put_two-requires c = record {
  outer = record { above = omega (arith, c.requires.above); values = omega (arith, c.requires.values) };
  inner = record { above = omega (arith, c.requires.above); values = omega (arith, c.requires.values) };
}

pub put-requires : goal.put-requires
put-requires c = record {
  above = omega (arith, c.requires.above, two_more _ _ _ _ c.put_two.ensures.items, ap (λ (r : Room). r.places) c.put_two.ensures.room);
  values = omega (arith, c.requires.values, ap (λ (r : Room). r.values) c.put_two.ensures.room);
}

pub put_two-requires-2 : goal.put_two-requires-2
put_two-requires-2 c = record {
  outer = record {
    above = omega (arith, c.requires.above, two_more _ _ _ _ c.put_two.ensures.items, ap (λ (r : Room). r.places) c.put_two.ensures.room);
    values = omega (arith, c.requires.values, ap (λ (r : Room). r.values) c.put_two.ensures.room);
  };
  inner = record {
    above = omega (arith, c.requires.above, two_more _ _ _ _ c.put_two.ensures.items, ap (λ (r : Room). r.places) c.put_two.ensures.room);
    values = omega (arith, c.requires.values, ap (λ (r : Room). r.values) c.put_two.ensures.room);
  };
}
