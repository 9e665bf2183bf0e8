pub mod Objects
pub mod Operators
pub mod Here
