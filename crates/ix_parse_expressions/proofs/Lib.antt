pub mod LowerParts
pub mod NothingBelow
pub mod Entries
pub mod ExprTurns
-- Passed on from ix_parse_base.
pub use Rattle.ix_parse_base.proofs.Takes
pub use Rattle.ix_parse_base.proofs.Turns
