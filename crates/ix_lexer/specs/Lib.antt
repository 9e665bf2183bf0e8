pub mod Tokens
pub mod Elements
pub mod Numbers
pub mod Fixed
pub mod Characters
pub mod Spans
pub mod Scan
pub mod Steps
