pub mod Code
pub mod Heap
pub mod Claims
pub mod SameClaims
pub mod Tables
pub mod Tasks
pub mod Machine
pub mod Traces
pub mod Safe
pub mod Inputs
pub mod World
pub mod Objects
pub mod Posts
pub mod Waits
pub mod Analysis
pub mod Numbers
pub mod Types
pub mod Formed
pub mod Typed
pub mod TypedStates
-- What holds of the places in a program, and of the place where a run stops.
pub mod CodePlaces
pub mod EndingPlaces
-- What is asked of a program that is checked.
pub mod Ready
-- The first line of a certificate.
pub mod FirstLine
pub mod PathNumber
-- Passed on from ix_num.
pub use Rattle.ix_num.specs.Intervals
pub use Rattle.ix_num.specs.Ints
pub use Rattle.ix_num.specs.OpRanges
pub use Rattle.ix_num.specs.declared.arith.Arith
pub use Rattle.ix_num.specs.declared.interval.Interval
