mod Least
pub mod OneCertificate
mod HeadCount
mod Written
mod LeastLabels
mod Paths
mod ListsWithin
mod Operations
mod Stored
mod After
mod Tests
mod Closing
mod Cut
mod Fitting
mod Mapped
mod Typed
mod Claims
mod Inside
mod Declared
mod LabelsWithin
mod Rows
-- Passed on from ix_verify.
pub use Rattle.ix_verify.proofs.OneVerdict
-- Passed on from ix_check.
pub use Rattle.ix_check.proofs.Lists
pub use Rattle.ix_check.proofs.Ready
-- Passed on from ix_cert.
pub use Rattle.ix_cert.proofs.OneMeaning
