use Rattle.std.proofs.Common.{ap, ◌∙◌}
use Rattle.ix_machine_state.specs.declared.room.Room.{Room}
use Rattle.ix_machine.proofs.turns.begin_call.Goals as goal

pub returns-in-Err-clause-fits : goal.returns-in-Err-clause-fits
returns-in-Err-clause-fits c = (ap (λ (room : Room). room.places) c.put.ensures.room ∙ c.requires.fits.0, ap (λ (room : Room). room.values) c.put.ensures.room ∙ c.requires.fits.1)
