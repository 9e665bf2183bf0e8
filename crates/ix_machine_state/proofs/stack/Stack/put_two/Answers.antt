use Rattle.std.proofs.Common.{List, [], ◌∷◌, ◌++◌, ◌∙◌, ap, arith}
use Rattle.ix_machine_state.specs.declared.places.Place.{Place}
use Rattle.ix_machine_state.specs.declared.room.Room.{Room}
use Rattle.ix_machine_state.proofs.Free.{one_more}
use Rattle.ix_machine_state.proofs.Opened.{opened_two}
use Rattle.ix_machine_state.proofs.stack.Stack.put_two.Goals as goal

pub put-requires-2 : goal.put-requires-2
put-requires-2 c = record {
  above = omega (arith, c.requires.inner.above, one_more _ _ _ c.put.ensures.items, ap (λ (r : Room). r.places) c.put.ensures.room);
  values = omega (arith, c.requires.inner.values, ap (λ (r : Room). r.values) c.put.ensures.room);
}

pub returns : goal.returns
returns c = record {
  tasks = opened_two c.args.self.now.places.items c.put.new.self.places.items _ c.args.place c.args.inner c.put.ensures.items c.put-2.ensures.items;
  items = c.put-2.ensures.items ∙ ap (λ (places : List Place). places ++ c.args.inner ∷ []) c.put.ensures.items;
  room = c.put-2.ensures.room ∙ c.put.ensures.room;
}
