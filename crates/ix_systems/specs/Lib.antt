pub mod KindTables
pub mod KindLaws
