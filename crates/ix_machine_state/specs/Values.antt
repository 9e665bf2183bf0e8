-- The receiver among the values of a call.
use Rattle.std.specs.Prelude.{List, [], ◌∷◌, Option, None, Some}
use Rattle.ix_core.specs.Heap as model
use Rattle.ix_machine_state.specs.declared.held.Held.{Held}
use Rattle.ix_machine_state.specs.Rows.{held_of}

abbrev pub receivers : Option Held → List model.Held
receivers None = []
receivers (Some value) = held_of value ∷ []
