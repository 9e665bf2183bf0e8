pub mod HandedOn
pub mod InTurn
pub mod Calls
pub mod Assignments
pub mod Elements
pub mod Creations
