pub mod Ints
pub mod Arithmetic
pub mod Comparisons
pub mod Intervals
pub mod OpRanges
