use Rattle.std.proofs.Common.{arith}
use Rattle.ix_machine_state.proofs.Reach.{popped}
use Rattle.ix_machine_state.proofs.stack.Stack.close.Goals as goal

pub invariant_of-self : goal.invariant_of-self
invariant_of-self c =
    let less = popped c.args.self.now c.pop_place.new.places c.pop_place.result c.pop_place.ensures.items in
    record {
      fits = less.0;
      passes = less.1;
      roomy = omega (arith, c.args.self.now.roomy, c.pop_place.ensures.room);
    }
