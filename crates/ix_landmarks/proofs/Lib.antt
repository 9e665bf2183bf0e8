mod Added
mod Ascending
