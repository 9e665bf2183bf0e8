use Rattle.ix_guard_text.proofs.NamedSources.{accepted_memory}
use Rattle.ix_guard_text.proofs.guarding.of_unit.Goals as goal

pub unresolved-requires : goal.unresolved-requires
unresolved-requires c = accepted_memory c.args.unit.now c.in-Err.why c.requires.accepts c.in-Err.ensures.refused
