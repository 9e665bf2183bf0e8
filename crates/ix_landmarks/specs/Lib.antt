-- What is added to a list of numbers.
pub mod Items
