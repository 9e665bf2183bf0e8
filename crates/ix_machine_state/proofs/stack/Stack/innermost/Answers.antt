use Rattle.ix_machine_state.specs.Places.{outer}
use Rattle.ix_machine_state.proofs.Reach.{popped_free}
use Rattle.ix_machine_state.proofs.stack.Stack.innermost.Goals as goal

pub returns-in-Some-clause-free : goal.returns-in-Some-clause-free
returns-in-Some-clause-free c = popped_free c.args.self.now (outer c.args.self.now.places.items) c.in-Some.place c.in-Some.ensures.items
