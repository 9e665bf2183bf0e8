pub mod OneByOne
pub mod LoopParts
