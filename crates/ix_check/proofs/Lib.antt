mod LoopsInOrder
mod Listed
mod ListedErrors
mod Listing
mod Texts
mod NodesByLabels
mod WholeMethods
mod Added
mod Methods
mod FlowPlaces
mod PointPlaces
mod TextPlaces
pub mod ErrorPlaces
mod SameFlows
mod DeclaredNames
mod SameSignature
mod SameErrors
mod JudgedAlone
mod TwoParts
-- Passed on from ix_errors.
pub use Rattle.ix_errors.proofs.Lists
-- Passed on from ix_soundness.
pub use Rattle.ix_soundness.proofs.Ready
