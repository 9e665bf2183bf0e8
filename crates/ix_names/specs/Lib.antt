pub mod Shown
pub mod Counted
pub mod Places
pub mod Declarations
pub mod Parents
pub mod Heads
pub mod Added
pub mod Told
