use Rattle.ix_machine_inputs.proofs.Typed.{of_element}
use Rattle.ix_machine_inputs.proofs.values.input_of.Goals as goal

pub returns-in-Array : goal.returns-in-Array
returns-in-Array c = rw c.in-Array.is (of_element c.args.word.now c.in-Array.base c.in-Array.depth c.in-Array.element c.arrays_input.result c.arrays_input.ensures)
