pub mod LowClasses
pub mod LowTable
pub mod TableLaws
pub mod Rows
pub mod Keys

-- Laws of ix_num, passed on.
