-- The errors at the nodes of a method's graph.
pub mod NodeErrors
-- All errors of a method.
pub mod MethodErrors
-- How many visits of nodes they take at most.
pub mod Visits
-- What is read of a program where one of its methods is judged.
pub mod Signatures
-- The errors of a program in two parts.
pub mod Parts
-- Passed on from ix_errors.
pub use Rattle.ix_errors.specs.ErrorList
