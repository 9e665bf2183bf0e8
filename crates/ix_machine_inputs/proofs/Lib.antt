pub mod Parameters
pub mod Written
pub mod Pieces
pub mod Typed
pub mod Named
pub mod Listed
pub mod Numbered
pub mod OneValue
