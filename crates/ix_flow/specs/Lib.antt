-- The flow of a method, over any stores.
pub mod Flow
-- Labels that are given.
pub mod Given
-- The walk over a body with given labels.
pub mod Walk
