-- What is known along a body with guards, as facts.
pub mod KnownFacts
-- The errors of bounds.
pub mod BoundErrors
-- Runs of guarded texts.
pub mod Follows
pub mod Behind
-- What is promised of a guarded text.
pub mod Promise
-- What is known along a body with guards.
pub mod Known
-- Bodies with guards.
pub mod Guards
-- Pieces of such a body.
pub mod Pieces
-- What a lowering adds, where each operation has a property.
pub mod KeptSlots
-- Accesses at a place.
pub mod OnlyThere
-- The names that an expression assigns, and the slots of what they mean.
pub mod Targets
-- Two variables in scope.
pub mod InScope
-- The tree of a test, wherever its parts stand.
pub mod TestTrees
-- What it becomes.
pub mod TestForms
-- What is known of code behind a test, and of code that has no access at a place.
pub mod Laws
-- All accesses in an expression.
pub mod AllAccesses
-- Those in a statement, and those at a place.
pub mod AtPlace
-- Statements as far as guards go, and which accesses of a source stand behind tests.
pub mod Outlines
pub mod SourceGuards
-- All accesses of a source.
pub mod SourceAccesses
-- Where names that are indices stand.
pub mod StandingIndices
