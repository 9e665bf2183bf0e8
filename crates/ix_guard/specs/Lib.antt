-- Which accesses of a source are guarded, by which tests, and the text with these tests.
pub mod Accesses
pub mod Tests
pub mod Guards
-- The accesses that the promise on a guarded text is about.
pub mod GuardedAccesses
pub mod Trees
pub mod Kept
pub mod Shown
