pub mod Refusing
pub mod ExactPlaces
pub mod Answered
pub mod Laws
pub mod OntoFields
pub mod NextClass
