-- What values, rows and cells stand for.
use Rattle.std.specs.Prelude.{List, [], ◌∷◌, map, take, drop}
use Rattle.ix_core.specs.Heap as model
use Rattle.ix_machine_state.specs.declared.held.Held.{Held}
use Rattle.ix_machine_state.specs.declared.held.Held.TheVariants as held
use Rattle.ix_machine_state.specs.declared.heap.Kind.{Kind}
use Rattle.ix_machine_state.specs.declared.heap.Kind.TheVariants as kind
use Rattle.ix_machine_state.specs.declared.heap.Row.{Row}

abbrev pub held_of : Held → model.Held
held_of (held.Int n) = model.Num n
held_of (held.Bool answer) = model.Boolean answer
held_of held.Null = model.Null
held_of (held.At number) = model.At number

abbrev pub kind_of : Kind → model.Kind
kind_of (kind.Object class) = model.ObjectOf class
kind_of (kind.Array ty) = model.ArrayOf ty.now

abbrev pub object_of : Row → List Held → model.Object
object_of row cells = record { kind = kind_of row.kind; cells = map held_of cells }

-- each row with its cells, of which the first row has the first
abbrev pub objects_of : List Row → List Held → List model.Object
objects_of [] cells = []
objects_of (row ∷ rows) cells = object_of row (take row.len cells) ∷ objects_of rows (drop row.len cells)
