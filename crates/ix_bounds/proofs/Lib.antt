pub mod BoundedNumbers
pub mod Looks
pub mod OnPath
pub mod PartsAlone
pub mod LessParts
pub mod BestOfParts
pub mod ArraysAlike
pub mod BoundSteps
