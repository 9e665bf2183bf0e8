pub mod Equations
pub mod Rows
pub mod SmallRows
pub mod DeclaratorNumbers
pub mod ErrorLists
pub mod FewDeclarations
pub mod SubclassesClimb
