pub mod Signs
pub mod Takes
pub mod Turns
