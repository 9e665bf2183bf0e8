pub mod KnownOne
pub mod KnownBeside
