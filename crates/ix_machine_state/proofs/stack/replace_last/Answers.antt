use Rattle.std.proofs.Common.{arith}
use Rattle.ix_machine_state.proofs.Outer.{last_set}
use Rattle.ix_machine_state.proofs.Reach.{place_count}
use Rattle.ix_machine_state.proofs.stack.replace_last.Goals as goal

pub returns-clause-items : goal.returns-clause-items
returns-clause-items c = last_set c.args.places.now.items _ c.args.place (omega (arith, c.requires, place_count c.args.places.now))
