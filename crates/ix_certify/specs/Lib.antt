-- The certificate of the least labels.
pub mod Certificates
-- Stores that speak of certain paths alone.
pub mod Within
-- Passed on from ix_verify.
pub use Rattle.ix_verify.specs.Verdicts
pub use Rattle.ix_verify.specs.declared.answer.CertError
pub use Rattle.ix_verify.specs.declared.answer.Verified
-- Passed on from ix_check.
pub use Rattle.ix_check.specs.MethodErrors
pub use Rattle.ix_check.specs.ErrorList
