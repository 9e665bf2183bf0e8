use Rattle.ix_facts.proofs.stores.field_laws.Goals as goal
use Rattle.ix_facts.proofs.StoresHold.{read_meets, written_meets}

pub returns-clause-read_sound : goal.returns-clause-read_sound
returns-clause-read_sound c = read_meets

pub returns-clause-written_sound : goal.returns-clause-written_sound
returns-clause-written_sound c = written_meets
