pub mod PathTies
pub mod EntriesAre
pub mod Found
mod Places
mod Added
mod Marked
mod Unmarked
pub mod NearPlaces
mod OneOrder
mod PartsNamed
mod Filtered
mod OnePath
mod RisingMarks
mod KeptFirst
