-- The rules of a method as rules of flow.
pub mod MethodRules
-- The errors that the rules derive.
pub mod RuleErrors
pub mod Shown
-- What is passed on of the store that the rules answer.
-- Passed on from ix_store.
pub use Rattle.ix_store.specs.StoredFacts
pub use Rattle.ix_store.specs.StoreOrder
pub use Rattle.ix_store.specs.declared.store.Store
-- Passed on from ix_signatures.
pub use Rattle.ix_signatures.specs.Names
pub use Rattle.ix_signatures.specs.Naming
pub use Rattle.ix_signatures.specs.Signs
pub use Rattle.ix_signatures.specs.SignErrors
