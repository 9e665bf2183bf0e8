pub mod MachineSteps
pub mod FieldAccess
pub mod CallEffects
