mod FirstPassed
mod PlacesPassed
mod JointClaims
mod MethodNotes
pub mod NewLocals
pub mod Prefix
pub mod Told
mod StatementsTold
