-- The errors of an operation as lists.
pub mod Lists
-- Which parameters the claims of a result and the posts of a method name.
pub mod Parameters
-- The errors of places where `this` is used.
pub mod Escapes
pub mod Exactly
pub mod Refusals
-- The order in which errors are listed.
pub mod Order
-- The list of errors.
pub mod ErrorList
-- Keys of one length, for sorting.
pub mod FullKey
-- What the two sorts leave.
pub mod Least
-- Passed on from ix_sign.
pub use Rattle.ix_sign.specs.Names
pub use Rattle.ix_sign.specs.Signs
pub use Rattle.ix_sign.specs.MethodRules
pub use Rattle.ix_sign.specs.RuleErrors
