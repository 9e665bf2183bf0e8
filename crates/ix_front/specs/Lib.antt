-- What a command names.
pub mod Sources
-- Which files are opened.
pub mod Opened
pub mod Found
pub mod Promise
pub mod Findings

-- What is passed on of what is asked of a program that is found.
