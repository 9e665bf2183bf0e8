mod IntSums
mod Walks
mod PathsRead
mod OverAll
mod ReadFacts
mod KeptParts
mod OwnAmong
mod NewLengths
pub mod OutcomeIs
mod SixParts
mod OwnPut
