-- What an operation does, as the model says it.
use Rattle.std.specs.Prelude.{List}
use Rattle.ix_core.specs.Heap.{Held, Heap}
use Rattle.ix_core.specs.Machine as model
use Rattle.ix_machine_state.specs.Rows.{held_of}
use Rattle.ix_machine.specs.declared.operations.Done.{Done}
use Rattle.ix_machine.specs.declared.operations.Done.TheVariants as done

abbrev pub effect_of : Done → List Held → Heap → model.Effect
effect_of done.Done slots heap = model.Done slots heap
effect_of done.Wrapped slots heap = model.Wrapped slots heap
effect_of (done.Printed value) slots heap = model.Printed (held_of value)
effect_of (done.Stopped outcome) slots heap = model.Stopped (model.ending_of outcome)

abbrev pub IsPrinted : Done → Type 0
IsPrinted (done.Printed value) = Unit {0}
IsPrinted _ = ⊥

abbrev pub IsStopped : Done → Type 0
IsStopped (done.Stopped outcome) = Unit {0}
IsStopped _ = ⊥
