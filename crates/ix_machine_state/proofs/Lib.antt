pub mod Reach
pub mod Opened
pub mod Free
pub mod Rooms
pub mod Outer
pub mod Objects
