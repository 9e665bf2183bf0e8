pub mod KeptSources
pub mod Truncated
mod Rows
mod Sums
mod Inside
mod Inserted
mod Branches
mod Tested
