pub mod Literals
pub mod First
pub mod World
pub mod Overriding
pub mod Parts
pub mod ClassTypes
pub mod Seen
pub mod Begun
