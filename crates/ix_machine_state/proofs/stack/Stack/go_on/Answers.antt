use Rattle.std.proofs.Common.{arith, ap}
use Rattle.ix_machine_state.specs.declared.places.Place.TheVariants as place
use Rattle.ix_machine_state.specs.Fits.{reach, most_values}
use Rattle.ix_machine_state.specs.Places.{outer}
use Rattle.ix_machine_state.proofs.Reach.{reach-snoc, values-snoc}
use Rattle.ix_machine_state.proofs.Outer.{reach_outer, values_outer}
use Rattle.ix_machine_state.proofs.stack.Stack.go_on.Goals as goal

pub invariant_of-self : goal.invariant_of-self
invariant_of-self c = record {
  fits = omega (arith, c.requires.free.above, c.args.self.now.fits, reach_outer c.args.self.now.places.items c.requires.some, ap (reach 0) c.replace_last.ensures.items, reach-snoc 0 (outer c.args.self.now.places.items) (place.Rest c.args.rest));
  passes = omega (arith, c.requires.free.values, c.args.self.now.passes, values_outer c.args.self.now.places.items c.requires.some, ap most_values c.replace_last.ensures.items, values-snoc (outer c.args.self.now.places.items) (place.Rest c.args.rest));
  roomy = omega (arith, c.args.self.now.roomy, c.replace_last.ensures.room);
}
