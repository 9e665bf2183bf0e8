pub mod WalksAlongBoth
pub mod MergedTables
pub mod TableForms
pub mod SaidAlready
pub mod RisingSteps
mod KeptFronts
pub mod OneKind
pub mod KeySearches
mod PutFacts
mod PiledFacts
pub mod KeysApart
pub mod LessFacts
mod WentWell
mod NumbersMet
pub mod JoinedClasses
pub mod LengthLinks
mod Members
mod HighEnds
pub mod RangesMet
mod Shown
mod ListedArrays
mod OverLabels
mod OverBoth
mod ClassesOfInts
pub mod Only
mod BesideClosed
