-- What inputs, readings and unmet claims of the code stand for.
use Rattle.std.specs.Prelude.{pos}
use Rattle.ix_core.specs.Heap as model
use Rattle.ix_core.specs.Inputs as core
use Rattle.ix_core.specs.Safe as safe
use Rattle.ix_machine_inputs.specs.declared.claims.Reading.{Reading}
use Rattle.ix_machine_inputs.specs.declared.claims.Unmet.{Unmet}
use Rattle.ix_machine_inputs.specs.declared.input.Input.{Input}
use Rattle.ix_machine_inputs.specs.declared.input.Input.TheVariants as input

abbrev pub input_of : Input → safe.Input
input_of (input.Int n) = safe.Whole n
input_of (input.Bool answer) = safe.Flag answer
input_of (input.Ints ns) = safe.Ints ns

abbrev pub reading_of : Reading → model.Reading
reading_of reading = record { int = reading.int; size = pos reading.size }

abbrev pub unmet_of : Unmet → core.Unmet
unmet_of unmet = record { param = unmet.param; claim = unmet.claim }
