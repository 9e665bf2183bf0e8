pub mod BytesFound
mod NamesFound
mod OneReading
mod EachText
-- What crates above cite of what is found.
pub mod OneFinding
pub mod SomeFinding
pub mod FoundPrograms
