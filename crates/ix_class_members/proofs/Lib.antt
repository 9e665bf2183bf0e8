pub mod FewMembers
pub mod FirstNumbers
pub mod NoMembers
pub mod Worlds
mod OneWalk
pub mod ClassUses
pub mod EachOnce
pub mod FirstFields
