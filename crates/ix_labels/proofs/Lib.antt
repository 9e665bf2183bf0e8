mod Visited
mod SameLandmarks
mod KeptNodes
mod Solved
mod Filled
pub mod Turns
pub mod Filling
pub mod Bounded
mod HeadStores
