pub mod SignClasses
pub mod SignSteps
pub mod SignTruth
pub mod LeastSteps
pub mod ForgottenAlike
mod SmallLeft
