pub mod LowerStatements
pub mod HighVariables
pub mod LowExpressions
pub mod Words
pub mod Inside
