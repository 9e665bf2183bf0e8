mod Listed
mod NamedParameters
mod EscapeErrors
-- Lists that have exactly the errors of a rule: crates above cite these.
pub mod Refused
mod WritesRefused
mod OverridesRefused
mod PostsRefused
mod StrictOrder
mod FullKeys
mod KeysApart
mod LeastOfEach
-- What crates above cite of lists of errors.
pub mod Lists
mod InOrder
-- Passed on from ix_sign.
pub use Rattle.ix_sign.proofs.ErrorsWeaker
pub use Rattle.ix_sign.proofs.MethodLaws
