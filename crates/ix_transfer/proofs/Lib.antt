pub mod BestMembers
pub mod Silent
pub mod SameRules
pub mod SameFinish
pub mod AfterIs
