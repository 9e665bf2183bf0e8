pub mod GuardedFlow
pub mod KeptFacts
pub mod KeptRules
pub mod TestFacts
pub mod InsideProved
pub mod FinePoints
pub mod TestTells
pub mod LandmarksExist
pub mod KeptByRules
pub mod NoTextErrors
pub mod GuardsAvoid
pub mod NoBoundErrors
pub mod PlacedPieces
mod RowsGuards
-- Pieces of runs
pub mod Following
-- Expressions
pub mod ActionsKeep
pub mod FormsKeep
pub mod ExpressionsFollow
pub mod Printing
-- Tests and statements
pub mod TestsStop
pub mod StatementForms
pub mod MovedStatements
pub mod StatementsFollow
-- Members, calls and whole runs
pub mod WorldsBeside
pub mod MembersBeside
pub mod BodiesFollow
pub mod GuardedRuns
mod GuardedTrees
pub mod PromiseKept
pub mod Saying
pub mod GuardedPieces
pub mod GuardedItems
-- What expressions become, for any property of operations.
pub mod KeptItems
pub mod KeptForms
pub mod KeptExpressions
pub mod FullExpressions
pub mod Declarations
-- The two properties.
pub mod KeptFits
-- Code that keeps what a test tells.
pub mod AssignedApart
pub mod KeptPieces
pub mod KeptNames
pub mod KeptSound
pub mod SoundKept
-- Code without an access at a place.
pub mod Elsewhere
pub mod ElsewhereStatements
-- Trees with moved places.
pub mod AccessesMoved
pub mod StatementsMoved
pub mod PartsLower
pub mod Comparisons
pub mod NothingAssigned
pub mod TestLowers
pub mod GuardLowers
pub mod MadeWithRoom
pub mod TestKeeps
mod RowsTests
-- What lowering adds, and what a statement of one full expression, a choice and a loop add, where their parts are guarded.
pub mod Growing
pub mod Compounds
-- The tests before a statement.
pub mod TestSlots
pub mod TestsGrow
-- Statements beside those of the source.
pub mod Forms
pub mod StatementsGuarded
-- Bodies and whole programs.
pub mod BodiesGuarded
pub mod ProgramsGuarded
-- What code behind a test keeps.
pub mod NoneInOutlines
pub mod LawsHold
pub mod GuardedPrograms
pub mod Outlined
pub mod AccessesCounted
pub mod OneAccess
pub mod AccessesListed
pub mod TestedPairs
pub mod StandingOutlines
pub mod GuardedStatements
pub mod StandingExpressions
pub mod StandingStatements
pub mod StandingSources
pub mod GuardedSources
pub mod OneGuarded
