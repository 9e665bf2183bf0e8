pub mod MachineSteps
pub mod MachineLoads
pub mod MachineTests
pub mod KeptNumbers
pub mod FieldReads
pub mod FieldWrites
pub mod CallStack
pub mod ReturnedCalls
pub mod WholeCalls
mod FieldRows
mod ReturnRows
