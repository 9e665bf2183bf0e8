-- The graph of a method as a problem of flow.
pub mod Problem
pub mod ProblemLaws
pub mod SmallOnce
-- Straight runs of nodes, within which labels are passed.
pub mod Runs
pub mod RunAsks
pub mod RunLaws
-- What the labels of a method are.
pub mod Labels
-- What they are by those that are kept.
pub mod Filled
-- How many visits of nodes they take at most.
pub mod Visits
-- The least labels of a method's loops.
pub mod LoopLabels
-- Passed on from ix_sign.
pub use Rattle.ix_sign.specs.MethodRules
pub use Rattle.ix_sign.specs.RuleErrors
pub use Rattle.ix_sign.specs.SignErrors

-- What is passed on of the graph, for the bound on visits.
