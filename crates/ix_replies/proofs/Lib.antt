mod FewMethods
pub mod Verdicts
pub mod Deliveries
