pub mod OverPaths
pub mod KeptLaws
pub mod BestLaws
