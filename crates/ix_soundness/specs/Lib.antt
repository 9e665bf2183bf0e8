-- From which stores the tasks of a frame have no error.
pub mod Chain
-- What has to be known of an operation.
pub mod Clean
pub mod Shown
-- How far a constructor is.
pub mod Supers
pub mod Making
-- Calls that run another method than they name.
pub mod Direct
-- Errors.
pub mod Errors
pub mod Known
-- The promise.
pub mod Sound
pub mod Stands
