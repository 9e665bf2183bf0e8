-- The plain form, from what names mean up to whole programs.
pub mod Scope
pub mod Parts
pub mod Assigned
pub mod Values
pub mod Statements
pub mod Counts
pub mod Members
pub mod Program
