mod KnownFacts
mod SmallFacts
mod PartsTaken
pub mod NearRaised
mod NearCopied
mod EndsOfPart
