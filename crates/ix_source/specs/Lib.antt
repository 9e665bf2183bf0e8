pub mod Whole
-- What a source means when it runs, from values and effects up to whole runs.
pub mod Runs
pub mod Context
pub mod Values
pub mod Statements
pub mod Bodies
pub mod Source
pub mod Promise
pub mod Seen
pub mod Along
pub mod Kept
pub mod Sound
pub mod Calling
pub mod Running
pub mod SoundStatements
pub mod SoundBodies
pub mod Called
pub mod Grounds
-- What is known of a method and of a class by its number.
pub mod ByNumber
-- What is asked of the methods and constructors that a call runs.
pub mod Callees
-- An expression without errors on names is sound: the statement of the induction.
pub mod WellNamed
-- Whole bodies of methods and constructors, and of all classes.
pub mod SoundClasses
-- Passed on from ix_lower.
pub use Rattle.ix_lower.specs.declared.source.LowerError
