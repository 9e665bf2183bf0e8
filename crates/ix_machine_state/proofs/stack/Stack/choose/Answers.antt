use Rattle.std.proofs.Common.{arith, ap}
use Rattle.ix_machine_state.specs.declared.room.Room.{Room}
use Rattle.ix_machine_state.proofs.Free.{one_more}
use Rattle.ix_machine_state.proofs.stack.Stack.choose.Goals as goal

pub put-requires : goal.put-requires
put-requires c = record {
  above = omega (arith, c.requires.above);
  values = omega (arith, c.requires.values);
}

pub put_two-requires : goal.put_two-requires
put_two-requires c = record {
  outer = record {
    above = omega (arith, c.requires.above, one_more _ _ _ c.put.ensures.items, ap (λ (r : Room). r.places) c.put.ensures.room);
    values = omega (arith, c.requires.values, ap (λ (r : Room). r.values) c.put.ensures.room);
  };
  inner = record {
    above = omega (arith, c.requires.above, one_more _ _ _ c.put.ensures.items, ap (λ (r : Room). r.places) c.put.ensures.room);
    values = omega (arith, c.requires.values, ap (λ (r : Room). r.values) c.put.ensures.room);
  };
}
