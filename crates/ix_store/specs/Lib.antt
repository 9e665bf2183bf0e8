pub mod ClosedFacts
pub mod EmptyRanges
pub mod Orders
pub mod OverInts
pub mod StoredFacts
pub mod NewFacts
pub mod KnownParts
pub mod SeenFacts
pub mod StoreOrder
pub mod StoreLaws
pub mod WholeStores
-- Passed on from ix_fact_paths.
pub use Rattle.ix_fact_paths.specs.ChangedPaths
