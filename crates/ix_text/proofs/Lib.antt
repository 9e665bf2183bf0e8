pub mod LineStarts
pub mod Characters
pub mod Walked
pub mod Chained
