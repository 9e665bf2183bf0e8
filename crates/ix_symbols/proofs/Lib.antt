mod FirstNotes
mod LeastRanks
mod SortedErrors
-- What crates above cite: errors have a list.
pub mod SomeList
pub mod Climbing
