pub mod Cases
pub mod Heaps
pub mod Kept
pub mod Writes
pub mod MetInputs
pub mod Ancestors
pub mod TypeLaws
pub mod FormedParts
pub mod TypedValues
pub mod TypedSteps
pub mod TypedOperations
pub mod TypedTasks
pub mod TypedMoves
pub mod TypedCalls
pub mod TypedRuns
pub mod TypedStarts
pub mod TypedFields
pub mod FormedWorld
pub mod GoodStarts
pub mod RunsAreSafe
pub mod GoodIsSafe
pub mod Waiting
pub mod Entered
pub mod Stack
pub mod LawsAreSafe
pub mod SlotSteps
pub mod FieldSteps
pub mod ArraySteps
pub mod WorldTables
pub mod LawsCanBeMet
pub mod RepeatedClaims
pub mod Translated
pub mod Programs
mod ConditionRows
mod OperationRows
mod CallRows
mod ObjectRows
mod Unsafe
mod FormedRows
pub mod BrokenRows
mod InputRows
-- Programs with posts.
pub mod PostRows
pub mod TaskPlaces
pub mod RunPlaces
pub mod Ways
