-- The lines of a certificate.
pub mod Lines
-- Certificates.
pub mod Labellings
-- What is added to a text.
pub mod Adding
-- What is read from a text.
pub mod Reading
-- Labels that say the same.
pub mod SameLabels
-- Passed on from ix_store.
pub use Rattle.ix_store.specs.declared.store.Store
pub use Rattle.ix_store.specs.StoredFacts
