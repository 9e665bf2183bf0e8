pub mod Answered
mod GuardsAnswered
mod SomeAnswer
mod WholeSources
mod SomeGuarded
mod Verifiable
mod NamedProfiles
pub mod GuardedFindings
