pub mod Numbered
pub mod Ranks
pub mod Needs
-- Passed on from ix_meaning.
pub use Rattle.ix_meaning.specs.Resolved
