use Rattle.std.proofs.lemmas.List.{map-set}
use Rattle.ix_machine_state.specs.Rows.{held_of}
use Rattle.ix_machine_state.proofs.frames.Frame.set.Goals as goal

pub returns-then-at-len-clause-slots : goal.returns-then-at-len-clause-slots
returns-then-at-len-clause-slots c = map-set held_of c.args.self.now.slots.items c.args.slot c.args.value
