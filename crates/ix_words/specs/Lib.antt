pub mod Words
pub mod Values
pub mod Commands
pub mod Shown
pub mod Clap
pub mod Kinds
