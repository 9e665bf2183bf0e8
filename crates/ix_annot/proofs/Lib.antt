pub mod Decimals
pub mod WithOthers
pub mod Products
