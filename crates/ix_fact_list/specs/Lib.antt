pub mod GroupLaws
pub mod NearNumbers
