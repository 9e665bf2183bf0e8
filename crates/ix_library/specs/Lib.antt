-- The library and what is joined with it.
pub mod Library
