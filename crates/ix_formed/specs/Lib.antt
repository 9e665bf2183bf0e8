-- What lowering adds: an expression, a statement; what a whole body has; what a whole program is made of; and what a source without errors on names says.
pub mod Additions
pub mod Extensions
pub mod Bodies
pub mod Shape
pub mod Weights
pub mod NoErrors
pub mod Written
pub mod Sizes
pub mod Points
pub mod OwnSlots
pub mod Typed
pub mod TypedStatements
pub mod Readable
pub mod TypedParts
pub mod LocalTypes
pub mod Parsed
-- Tokens whose literals are ints.
pub mod IntTokens
-- What holds of the place of each node of a tree.
pub mod EachNode
pub mod Refusals
