use Rattle.std.proofs.Common.{arith, ap}
use Rattle.ix_machine_state.specs.Fits.{reach, most_values}
use Rattle.ix_machine_state.proofs.Reach.{reach-snoc, values-snoc, place_count}
use Rattle.ix_machine_state.proofs.stack.Stack.put.Goals as goal

pub push_reserved-requires : goal.push_reserved-requires
push_reserved-requires c = omega (arith, c.requires.above, c.args.self.now.roomy, place_count c.args.self.now.places)

pub invariant_of-self : goal.invariant_of-self
invariant_of-self c = record {
  fits = omega (arith, c.requires.above, c.args.self.now.fits, ap (reach 0) c.push_reserved.ensures.items, reach-snoc 0 c.args.self.now.places.items c.args.place);
  passes = omega (arith, c.requires.values, c.args.self.now.passes, ap most_values c.push_reserved.ensures.items, values-snoc c.args.self.now.places.items c.args.place);
  roomy = omega (arith, c.args.self.now.roomy, c.push_reserved.ensures.capacity);
}
