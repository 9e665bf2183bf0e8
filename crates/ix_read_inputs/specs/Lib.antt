-- Passed on from ix_front.
pub use Rattle.ix_front.specs.Sources
pub use Rattle.ix_front.specs.Opened
