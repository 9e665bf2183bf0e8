-- What a step tells, as the model says it.
use Rattle.ix_core.specs.Machine as model
use Rattle.ix_machine_state.specs.Rows.{held_of}
use Rattle.ix_machine.specs.declared.machine.Event.{Event}
use Rattle.ix_machine.specs.declared.machine.Event.TheVariants as event

abbrev pub event_of : Event → model.Event
event_of event.Went = model.Went
event_of (event.Printed value) = model.Prints (held_of value)
event_of event.Stopped = model.Stops
