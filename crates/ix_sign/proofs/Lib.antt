pub mod MethodLaws
pub mod ErrorsWeaker
mod AfterRules
mod Alike
mod Rules
