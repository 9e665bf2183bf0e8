use Rattle.std.proofs.Common.{ap, ◌∙◌}
use Rattle.ix_machine_state.specs.declared.room.Room.{Room}
use Rattle.ix_machine.proofs.turns.turn.Goals as goal

pub returns-in-Stopped-clause-fits : goal.returns-in-Stopped-clause-fits
returns-in-Stopped-clause-fits c = (ap (λ (room : Room). room.places) c.advance.ensures.room ∙ c.requires.fits.0, ap (λ (room : Room). room.values) c.advance.ensures.room ∙ c.requires.fits.1)

pub returns-in-Printed-clause-fits : goal.returns-in-Printed-clause-fits
returns-in-Printed-clause-fits c = (ap (λ (room : Room). room.places) c.advance.ensures.room ∙ c.requires.fits.0, ap (λ (room : Room). room.values) c.advance.ensures.room ∙ c.requires.fits.1)

pub returns-in-Wrapped-clause-fits : goal.returns-in-Wrapped-clause-fits
returns-in-Wrapped-clause-fits c = (ap (λ (room : Room). room.places) c.advance.ensures.room ∙ c.requires.fits.0, ap (λ (room : Room). room.values) c.advance.ensures.room ∙ c.requires.fits.1)

pub returns-in-Went-clause-fits : goal.returns-in-Went-clause-fits
returns-in-Went-clause-fits c = (ap (λ (room : Room). room.places) c.advance.ensures.room ∙ c.requires.fits.0, ap (λ (room : Room). room.values) c.advance.ensures.room ∙ c.requires.fits.1)

pub begin_call-requires-clause-fits : goal.begin_call-requires-clause-fits
begin_call-requires-clause-fits c = (ap (λ (room : Room). room.places) c.advance.ensures.room ∙ c.requires.fits.0, ap (λ (room : Room). room.values) c.advance.ensures.room ∙ c.requires.fits.1)

pub leave-requires : goal.leave-requires
leave-requires c = (ap (λ (room : Room). room.places) c.advance.ensures.room ∙ c.requires.fits.0, ap (λ (room : Room). room.values) c.advance.ensures.room ∙ c.requires.fits.1)
