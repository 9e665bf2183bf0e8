-- the code divides them.
pub mod Rule
pub mod ListRules
pub mod AnnotRules
pub mod TypeRules
pub mod DeclRules
pub mod ClassRules
pub mod ExprRules
pub mod StmtRules
pub mod SourceRules
pub mod Errors
pub mod Taking
pub mod Reading
pub mod ReadingStatements
pub mod Onto
