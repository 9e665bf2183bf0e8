-- What flows from a store flows from a stronger one.
pub mod FlowWeaker
-- The laws can be met.
pub mod Reached
-- Labels with which a body flows.
pub mod GivenLabels
-- What a walk finds is what no flow avoids.
pub mod WalkExact
mod WalkBelow
mod WalkFlows
