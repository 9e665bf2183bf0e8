-- Names, and the paths that they stand for.
pub mod Names
pub mod Naming
pub mod Spared
-- What the rules give.
pub mod Signs
-- What they refuse.
pub mod SignErrors
-- What the rules owe.
pub mod SignLaws
-- Passed on from ix_rules_hold.
pub use Rattle.ix_rules_hold.specs.MachineSteps
