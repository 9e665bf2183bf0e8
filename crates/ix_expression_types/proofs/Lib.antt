pub mod MeantNames
pub mod LastMark
