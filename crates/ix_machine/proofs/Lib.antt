pub mod Items
pub mod Methods
pub mod Begun
pub mod Starting
pub mod Entered
pub mod OneStart
pub mod SomeStart
pub mod ManySteps
pub mod Leading
mod Accesses
mod CallStops
pub mod FieldRows
